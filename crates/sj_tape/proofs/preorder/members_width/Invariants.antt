use Rattle.std.proofs.Common.{◌≤◌, length}
use Rattle.sj_tape.specs.inner.Fronts.{BeginsMembers}
use Rattle.sj_tape.specs.Marks.{marks}
use Rattle.sj_tape.proofs.preorder.members_width.Given as goal

abbrev pub invariant-loop : goal.invariant-loop
invariant-loop l = record {
  inside : l.at ≤ length l.nodes;
  done : BeginsMembers l.counter l.at (marks l.nodes);
}
