use Rattle.std.proofs.Common.{◌≡◌, ◌*◌, ◌-◌, length, min}
use Rattle.sj_tape.specs.Marks.{packed_marks}
use Rattle.sj_tape.specs.inner.Tags.{AreTags, AreMemberPlaces, MembersFrom}
use Rattle.sj_tape.proofs.key_tags.tags_between.Given as goal

abbrev pub invariant-loop-tags : goal.invariant-loop-tags
invariant-loop-tags l = record {
  from : MembersFrom (packed_marks l.nodes) (length l.tags.items) l.at;
  count : length l.tags.items ≡ min (length l.places.items * 64) l.len;
  tagged : AreTags (packed_marks l.nodes) l.tags.items;
  there : AreMemberPlaces (packed_marks l.nodes) l.places.items;
}

abbrev pub decreases-loop-tags : goal.decreases-loop-tags
decreases-loop-tags l = l.len - length l.tags.items
