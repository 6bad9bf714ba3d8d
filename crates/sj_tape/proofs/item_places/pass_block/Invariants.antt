use Rattle.std.proofs.Common.{◌-◌, ◌≤◌, map}
use Rattle.sj_tape.specs.inner.Parts.{ItemsFrom}
use Rattle.sj_tape.proofs.item_places.pass_block.Given as goal

abbrev pub invariant-loop-behind : goal.invariant-loop-behind
invariant-loop-behind g l = record {
  from : ItemsFrom (map g.N.StoredNode.mark_of l.nodes) l.behind.0 l.behind.1;
  within : l.behind.0 ≤ l.position;
}

abbrev pub decreases-loop-behind : goal.decreases-loop-behind
decreases-loop-behind g l = l.position - l.behind.0
