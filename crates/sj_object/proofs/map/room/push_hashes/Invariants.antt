use Rattle.std.proofs.Common.{◌≡◌, ◌≤◌, ◌++◌, map, take}
use Rattle.std.specs.Vec.{vec_capacity}
use Rattle.sj_object.proofs.map.room.push_hashes.Given as goal

abbrev pub invariant-loop-pair : goal.invariant-loop-pair
invariant-loop-pair g l = record {
  space : vec_capacity l.fn.hashes ≤ vec_capacity l.hashes;
  pushed : l.hashes.items ≡ l.fn.hashes.items ++ map (λ (p : g.row.K.Denot × g.row.V.Denot). g.S.KeyHasher.hash_of l.hasher (g.K.KeyText.text_of p.0)) (take l.pair-index l.pairs);
}
