use Rattle.std.proofs.Common.{◌≡◌, ◌++◌, length, map, take}
use Rattle.sj_object.specs.Index.{IsTable, hashes_in}
use Rattle.sj_object.proofs.map.retain.push_keys.Given as goal

abbrev pub invariant-loop-pair : goal.invariant-loop-pair
invariant-loop-pair g l = record {
  table : IsTable l.table;
  buckets : length l.table.heads.items ≡ length l.fn.table.heads.items;
  pushed : hashes_in l.table ≡ hashes_in l.fn.table ++ map (λ (p : g.row.K.Denot × g.row.V.Denot). g.S.KeyHasher.hash_of l.hasher (g.K.KeyText.text_of p.0)) (take l.pair-index l.pairs);
}
