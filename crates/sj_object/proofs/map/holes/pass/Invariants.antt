use Rattle.std.proofs.Common.{◌≡◌, ◌-◌, ◌≤◌, ℕ, length, drop}
use Rattle.sj_object.specs.inner.Holes.{lowered_by}
use Rattle.sj_object.proofs.map.holes.pass.Given as goal

abbrev pub invariant-loop-passed : goal.invariant-loop-passed
invariant-loop-passed l = record {
  within : l.passed ≤ length l.holes;
  same : (p : ℕ) → p ≤ l.place → lowered_by (drop l.passed l.holes) p ≡ lowered_by l.holes p;
}

abbrev pub decreases-loop-passed : goal.decreases-loop-passed
decreases-loop-passed l = length l.holes - l.passed
