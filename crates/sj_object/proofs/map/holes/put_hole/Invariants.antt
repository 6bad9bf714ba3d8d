use Rattle.std.proofs.Common.{◌≡◌, ◌-◌, ◌≤◌, ◌++◌, length, take, drop}
use Rattle.sj_object.specs.inner.Holes.{with_hole}
use Rattle.sj_object.proofs.map.holes.put_hole.Given as goal

abbrev pub invariant-loop-i : goal.invariant-loop-i
invariant-loop-i l = record {
  within : l.i ≤ length l.holes.items;
  same : with_hole l.hole l.holes.items ≡ take l.i l.holes.items ++ with_hole l.hole (drop l.i l.holes.items);
}

abbrev pub decreases-loop-i : goal.decreases-loop-i
decreases-loop-i l = length l.holes.items - l.i
