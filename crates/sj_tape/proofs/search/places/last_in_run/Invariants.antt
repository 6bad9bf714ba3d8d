use Rattle.std.proofs.Common.{◌≡◌, ◌+◌, ◌-◌, ◌≤◌, drop, length, option_map, IfSome}
use Rattle.std.specs.Option.{option_or}
use Rattle.sj_text_core.specs.Repeats.{find_last_member}
use Rattle.sj_text_core.specs.Tree.{members_len}
use Rattle.sj_tape.specs.inner.Ahead.{MembersAhead, members_at, tree_from}
use Rattle.sj_tape.specs.inner.Fronts.{BeginsTree}
use Rattle.sj_tape.specs.Marks.{packed_marks}
use Rattle.sj_tape.proofs.search.places.last_in_run.Given as goal

abbrev pub invariant-loop-at : goal.invariant-loop-at
invariant-loop-at g l = record {
  ahead : MembersAhead (packed_marks l.nodes) l.at;
  on : l.from ≤ l.at;
  begins : IfSome l.last (λ p. BeginsTree (drop p (packed_marks l.nodes)));
  value : option_or (find_last_member l.key (members_at (packed_marks l.nodes) l.at)) (option_map (tree_from (packed_marks l.nodes)) l.last) ≡ option_or (find_last_member l.key (members_at (packed_marks l.nodes) l.from)) (option_map (tree_from (packed_marks l.nodes)) l.initial.last);
  exact : l.steps + members_len (members_at (packed_marks l.nodes) l.at) ≡ l.fn.steps + members_len (members_at (packed_marks l.nodes) l.from);
}

abbrev pub decreases-loop-at : goal.decreases-loop-at
decreases-loop-at g l = length l.nodes - l.at
