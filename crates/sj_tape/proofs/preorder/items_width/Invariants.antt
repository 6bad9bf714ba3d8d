use Rattle.std.proofs.Common.{◌≤◌, length}
use Rattle.sj_tape.specs.inner.Fronts.{BeginsItems}
use Rattle.sj_tape.specs.Marks.{marks}
use Rattle.sj_tape.proofs.preorder.items_width.Given as goal

abbrev pub invariant-loop : goal.invariant-loop
invariant-loop l = record {
  inside : l.at ≤ length l.nodes;
  done : BeginsItems l.counter l.at (marks l.nodes);
}
