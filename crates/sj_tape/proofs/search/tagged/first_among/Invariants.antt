use Rattle.std.proofs.Common.{◌≡◌, ◌+◌}
use Rattle.sj_text_core.specs.Find.{find_member}
use Rattle.sj_text_core.specs.Repeats.{visited}
use Rattle.sj_tape.specs.inner.Ahead.{members_at}
use Rattle.sj_tape.specs.Marks.{packed_marks}
use Rattle.sj_tape.specs.inner.Tags.{member_node}
use Rattle.sj_tape.proofs.search.tagged.first_among.Given as goal

abbrev pub invariant-loop : goal.invariant-loop
invariant-loop g l = record {
  there : l.at ≡ member_node (packed_marks l.nodes) l.counter;
  found : find_member l.key (members_at (packed_marks l.nodes) l.at) ≡ find_member l.key (members_at (packed_marks l.nodes) l.place);
  exact : l.steps + visited l.key (members_at (packed_marks l.nodes) l.at) ≡ l.fn.steps + visited l.key (members_at (packed_marks l.nodes) l.place);
}
