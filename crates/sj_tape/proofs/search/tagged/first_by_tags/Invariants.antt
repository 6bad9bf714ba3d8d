use Rattle.std.proofs.Common.{◌≡◌, ◌+◌, ◌*◌, ◌-◌, ◌<◌, ◌≤◌, length, min}
use Rattle.sj_text_core.specs.Find.{find_member}
use Rattle.sj_text_core.specs.Repeats.{visited}
use Rattle.sj_tape.specs.inner.Ahead.{members_at}
use Rattle.sj_tape.specs.Marks.{packed_marks}
use Rattle.sj_tape.specs.inner.Tags.{member_node}
use Rattle.sj_tape.proofs.search.tagged.first_by_tags.Given as goal

abbrev pub invariant-loop-first : goal.invariant-loop-first
invariant-loop-first g l = record {
  there : l.at ≡ member_node (packed_marks l.nodes) l.first;
  few : l.first < l.block * 64 + 64;
  before : min (l.block * 64) (length l.kept.tags.items) ≤ l.first;
  within : l.first ≤ length l.kept.tags.items;
  found : find_member l.key (members_at (packed_marks l.nodes) l.at) ≡ find_member l.key (members_at (packed_marks l.nodes) l.place);
  most : l.steps + visited l.key (members_at (packed_marks l.nodes) l.at) ≤ l.fn.steps + visited l.key (members_at (packed_marks l.nodes) l.place);
}

abbrev pub decreases-loop-first : goal.decreases-loop-first
decreases-loop-first g l = length l.kept.tags.items - l.first
