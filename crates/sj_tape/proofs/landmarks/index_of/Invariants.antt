use Rattle.std.proofs.Common.{◌-◌, ◌≤◌, length}
use Rattle.sj_tape.proofs.landmarks.index_of.Given as goal

abbrev pub invariant-loop-low : goal.invariant-loop-low
invariant-loop-low g l = record {
  order : l.low ≤ l.high;
  within : l.high ≤ length l.parts;
}

abbrev pub decreases-loop-low : goal.decreases-loop-low
decreases-loop-low g l = l.high - l.low
