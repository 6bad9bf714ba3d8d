use Rattle.std.proofs.Common.{length}
use Rattle.sj_lines.specs.Lines.{numbered_lines}
use Rattle.sj_stream.specs.Stream.{waiting}
use Rattle.sj_stream.proofs.Runs.{Ran}
use Rattle.sj_stream.proofs.stream.unread_lines.Given as goal

abbrev pub invariant-loop-answer : goal.invariant-loop-answer
invariant-loop-answer l = Ran (numbered_lines l.fn.input) (waiting l.stream) l.found.items

abbrev pub decreases-loop-answer : goal.decreases-loop-answer
decreases-loop-answer l = length (waiting l.stream)
