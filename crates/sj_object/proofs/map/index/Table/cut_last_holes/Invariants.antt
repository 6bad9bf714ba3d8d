use Rattle.std.proofs.Common.{◌≡◌, length}
use Rattle.sj_object.specs.Index.{hashes_in, IsTable}
use Rattle.sj_object.proofs.map.index.Table.cut_last_holes.Given as goal

abbrev pub invariant-loop-self : goal.invariant-loop-self
invariant-loop-self l = record {
  hashes : hashes_in l.self ≡ hashes_in l.fn.self;
  buckets : length l.self.heads.items ≡ length l.fn.self.heads.items;
  table : IsTable l.self;
}

abbrev pub decreases-loop-self : goal.decreases-loop-self
decreases-loop-self l = length l.self.holes.items
