use Rattle.std.specs.Prelude.{◌-◌, ◌≤◌, map}
use Rattle.sj_tape.specs.inner.Parts.{ItemsFrom}
use Rattle.sj_tape.proofs.stored_node.item_place.Given as goal

abbrev pub invariant-loop-passed : goal.invariant-loop-passed
invariant-loop-passed g l = record {
  from : ItemsFrom (map g.N.StoredNode.mark_of l.nodes) l.passed l.place;
  within : l.passed ≤ l.position;
}

abbrev pub decreases-loop-passed : goal.decreases-loop-passed
decreases-loop-passed g l = l.position - l.passed
