use Rattle.std.proofs.Common.{◌≤◌, ◌+◌, ◌*◌, length}
use Rattle.sj_text_core.specs.Tree.{AreProper, HasProper, items_from, members_from, depth, items_depth, members_depth}
use Rattle.sj_print.proofs.laws.+is_proper.Given as goal

abbrev pub decreases-is_proper : goal.decreases-is_proper
decreases-is_proper g l = 2 * depth (g.P.Parts.tree_of l.value.now)

abbrev pub decreases-are_proper : goal.decreases-are_proper
decreases-are_proper g l = 2 * items_depth (items_from (g.P.Parts.items_left l.items)) + 1

abbrev pub decreases-have_proper : goal.decreases-have_proper
decreases-have_proper g l = 2 * members_depth (members_from (g.P.Parts.members_left l.members)) + 1

abbrev pub invariant-are_proper-loop-item : goal.invariant-are_proper-loop-item
invariant-are_proper-loop-item g l = record {
  within : items_depth (items_from (g.P.Parts.items_left l.items)) ≤ items_depth (items_from (g.P.Parts.items_left l.fn.items));
  rest : AreProper (items_from (g.P.Parts.items_left l.items)) → AreProper (items_from (g.P.Parts.items_left l.fn.items));
}

abbrev pub decreases-are_proper-loop-item : goal.decreases-are_proper-loop-item
decreases-are_proper-loop-item g l = length (g.P.Parts.items_left l.items)

abbrev pub invariant-have_proper-loop-key : goal.invariant-have_proper-loop-key
invariant-have_proper-loop-key g l = record {
  within : members_depth (members_from (g.P.Parts.members_left l.members)) ≤ members_depth (members_from (g.P.Parts.members_left l.fn.members));
  rest : HasProper (members_from (g.P.Parts.members_left l.members)) → HasProper (members_from (g.P.Parts.members_left l.fn.members));
}

abbrev pub decreases-have_proper-loop-key : goal.decreases-have_proper-loop-key
decreases-have_proper-loop-key g l = length (g.P.Parts.members_left l.members)
