use Rattle.std.proofs.Common.{◌-◌, ◌≤◌, length}
use Rattle.sj_tape.specs.Marks.{packed_marks}
use Rattle.sj_tape.specs.inner.Places.{AllPlaced}
use Rattle.sj_tape.specs.inner.Tags.{AllTagged}
use Rattle.sj_tape.proofs.landmarks.landmarks_in.Given as goal

abbrev pub invariant-loop-at : goal.invariant-loop-at
invariant-loop-at l = record {
  placed : AllPlaced (packed_marks l.nodes) l.arrays.items;
  tagged : AllTagged (packed_marks l.nodes) l.objects.items;
  within : l.at ≤ length l.nodes;
}

abbrev pub decreases-loop-at : goal.decreases-loop-at
decreases-loop-at l = length l.nodes - l.at
