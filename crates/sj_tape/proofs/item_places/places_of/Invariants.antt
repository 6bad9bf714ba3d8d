use Rattle.std.proofs.Common.{◌≡◌, ◌*◌, ◌-◌, map, length, min}
use Rattle.sj_tape.specs.inner.Parts.{ItemsFrom}
use Rattle.sj_tape.specs.inner.Places.{ArePlaces}
use Rattle.sj_tape.proofs.item_places.places_of.Given as goal

abbrev pub invariant-loop-passed : goal.invariant-loop-passed
invariant-loop-passed g l = record {
  from : ItemsFrom (map g.N.StoredNode.mark_of l.nodes) l.passed l.at;
  count : l.passed ≡ min (length l.places.items * 64) l.len;
  there : ArePlaces (map g.N.StoredNode.mark_of l.nodes) l.places.items;
}

abbrev pub decreases-loop-passed : goal.decreases-loop-passed
decreases-loop-passed g l = l.len - l.passed
