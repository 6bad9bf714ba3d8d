use Rattle.std.proofs.Common.{◌≡◌, ◌+◌, ◌-◌, length}
use Rattle.sj_text_core.specs.Find.{find_member}
use Rattle.sj_text_core.specs.Repeats.{visited}
use Rattle.sj_tape.specs.inner.Ahead.{MembersAhead, members_at}
use Rattle.sj_tape.specs.Marks.{packed_marks}
use Rattle.sj_tape.proofs.search.places.place_of_first.Given as goal

abbrev pub invariant-loop-at : goal.invariant-loop-at
invariant-loop-at g l = record {
  ahead : MembersAhead (packed_marks l.nodes) l.at;
  found : find_member l.key (members_at (packed_marks l.nodes) l.at) ≡ find_member l.key (members_at (packed_marks l.nodes) l.from);
  exact : l.steps + visited l.key (members_at (packed_marks l.nodes) l.at) ≡ l.fn.steps + visited l.key (members_at (packed_marks l.nodes) l.from);
}

abbrev pub decreases-loop-at : goal.decreases-loop-at
decreases-loop-at g l = length l.nodes - l.at
