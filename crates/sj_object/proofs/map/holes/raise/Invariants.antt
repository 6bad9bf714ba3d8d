use Rattle.std.proofs.Common.{◌≡◌, ◌+◌, ◌≤◌, length, take}
use Rattle.sj_object.specs.Holes.{raised_by}
use Rattle.sj_object.proofs.map.holes.raise.Given as goal

abbrev pub invariant-loop-i : goal.invariant-loop-i
invariant-loop-i l = record {
  within : l.i ≤ length l.holes;
  fits : l.raised + l.i ≤ l.fn.place + length l.holes;
  same : raised_by (take l.i l.holes) l.raised ≡ raised_by l.fn.holes l.fn.place;
}

abbrev pub decreases-loop-i : goal.decreases-loop-i
decreases-loop-i l = l.i
