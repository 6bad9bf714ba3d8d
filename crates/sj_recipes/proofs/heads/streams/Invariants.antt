use Rattle.std.proofs.Common.{length}
use Rattle.sj_stream.specs.Stream.{waiting}
use Rattle.sj_recipes.proofs.heads.streams.Given as goal

abbrev pub decreases-loop-step : goal.decreases-loop-step
decreases-loop-step g l = length (waiting l.stream)
