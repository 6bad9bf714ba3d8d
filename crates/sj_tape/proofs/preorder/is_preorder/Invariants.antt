use Rattle.std.proofs.Common.{drop}
use Rattle.sj_tape.specs.inner.Fronts.{AllBegin}
use Rattle.sj_tape.specs.Marks.{marks}
use Rattle.sj_tape.proofs.preorder.is_preorder.Given as goal

abbrev pub invariant-loop-at : goal.invariant-loop-at
invariant-loop-at l = AllBegin (drop l.at (marks l.nodes))
