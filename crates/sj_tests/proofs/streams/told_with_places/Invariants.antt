use Rattle.std.proofs.Common.{length}
use Rattle.sj_stream.specs.Stream.{waiting}
use Rattle.sj_tests.proofs.streams.told_with_places.Given as goal

abbrev pub decreases-loop-step : goal.decreases-loop-step
decreases-loop-step l = length (waiting l.stream)
