use Rattle.std.proofs.Common.{◌≡◌, suc, true, length}
use Rattle.sj_lines.specs.Lines.{full_lines, numbered}
use Rattle.sj_stream.specs.Stream.{tells, waiting}
use Rattle.sjroute.proofs.Runs.{GoesOn}
use Rattle.sjroute.proofs.piece.route_piece.Given as goal

abbrev pub invariant-loop-step : goal.invariant-loop-step
invariant-loop-step l = record {
  told : tells l.stream ≡ true;
  on : GoesOn (numbered (suc l.fn.before) (full_lines l.fn.piece)) l.initial.routes (waiting l.stream) l.routes;
}

abbrev pub decreases-loop-step : goal.decreases-loop-step
decreases-loop-step l = length (waiting l.stream)
