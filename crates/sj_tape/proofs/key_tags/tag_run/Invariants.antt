use Rattle.std.proofs.Common.{◌-◌, ◌<◌, ◌≤◌, length}
use Rattle.sj_tape.specs.Marks.{packed_marks}
use Rattle.sj_tape.specs.inner.Tags.{AreTags, MembersFrom}
use Rattle.sj_tape.proofs.key_tags.tag_run.Given as goal

abbrev pub invariant-loop-tags : goal.invariant-loop-tags
invariant-loop-tags l = record {
  from : MembersFrom (packed_marks l.nodes) (length l.tags.items) l.at;
  more : length l.fn.tags.items < length l.tags.items;
  within : length l.tags.items ≤ l.most;
  tagged : AreTags (packed_marks l.nodes) l.tags.items;
}

abbrev pub decreases-loop-tags : goal.decreases-loop-tags
decreases-loop-tags l = l.most - length l.tags.items
