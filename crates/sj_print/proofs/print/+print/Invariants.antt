use Rattle.std.proofs.Common.{ℕ, ◌≤◌, ◌+◌, ◌-◌, ◌*◌, Option, length}
use Rattle.sj_text_core.specs.Tree.{list, obj, items_from, members_from}
use Rattle.sj_print.specs.Layouts.{IsLayout, laid}
use Rattle.sj_print.specs.inner.Layouts.{items_end, members_end}
use Rattle.sj_print.specs.Outputs.{HoldsText}
use Rattle.sj_print.specs.inner.Outputs.{Towards}
use Rattle.sj_print.specs.inner.Piles.{weight, items_weight, members_weight, ahead_tree, ahead_weight, pile_weight, laid_rest, inner, AreLaid, open_weight}
use Rattle.sj_print.proofs.print.+print.Given as goal

abbrev pub decreases-print_within : goal.decreases-print_within
decreases-print_within g l = 4 * weight (g.P.Parts.tree_of l.value.now)

abbrev pub decreases-print_items : goal.decreases-print_items
decreases-print_items g l = 4 * items_weight (items_from (g.P.Parts.items_left l.items)) + 1 + 5 * (1 - l.levels)

abbrev pub decreases-print_members : goal.decreases-print_members
decreases-print_members g l = 4 * members_weight (members_from (g.P.Parts.members_left l.members)) + 1 + 5 * (1 - l.levels)

abbrev pub invariant-print_items-loop-item : goal.invariant-print_items-loop-item
invariant-print_items-loop-item g l = record {
  within : items_weight (items_from (g.P.Parts.items_left l.items)) ≤ items_weight (items_from (g.P.Parts.items_left l.fn.items));
  put : (s : Option ℕ) → IsLayout l.layout s → Towards (HoldsText g.O.Output.holds) l.fn.out l.out (items_end s (items_from (g.P.Parts.items_left l.items))) (laid s (list (items_from (g.P.Parts.items_left l.fn.items))));
}

abbrev pub decreases-print_items-loop-item : goal.decreases-print_items-loop-item
decreases-print_items-loop-item g l = length (g.P.Parts.items_left l.items)

abbrev pub invariant-print_members-loop-key : goal.invariant-print_members-loop-key
invariant-print_members-loop-key g l = record {
  within : members_weight (members_from (g.P.Parts.members_left l.members)) ≤ members_weight (members_from (g.P.Parts.members_left l.fn.members));
  put : (s : Option ℕ) → IsLayout l.layout s → Towards (HoldsText g.O.Output.holds) l.fn.out l.out (members_end s (members_from (g.P.Parts.members_left l.members))) (laid s (obj (members_from (g.P.Parts.members_left l.fn.members))));
}

abbrev pub decreases-print_members-loop-key : goal.decreases-print_members-loop-key
decreases-print_members-loop-key g l = length (g.P.Parts.members_left l.members)

abbrev pub decreases-print_piled : goal.decreases-print_piled
decreases-print_piled g l = 4 * ahead_weight g.P.Parts.items_left g.P.Parts.members_left l.ahead + 4

abbrev pub decreases-pile_up : goal.decreases-pile_up
decreases-pile_up g l = 4 * ahead_weight g.P.Parts.items_left g.P.Parts.members_left l.ahead + 3

abbrev pub decreases-print_ahead : goal.decreases-print_ahead
decreases-print_ahead g l = 4 * ahead_weight g.P.Parts.items_left g.P.Parts.members_left l.ahead + 2

abbrev pub decreases-print_part : goal.decreases-print_part
decreases-print_part g l = 4 * weight (g.P.Parts.tree_of l.value.now)

abbrev pub decreases-further : goal.decreases-further
decreases-further g l = 4 * ahead_weight g.P.Parts.items_left g.P.Parts.members_left l.opened.ahead + 2

abbrev pub decreases-further_item : goal.decreases-further_item
decreases-further_item g l = 4 * items_weight (items_from (g.P.Parts.items_left l.items)) + 1

abbrev pub decreases-further_member : goal.decreases-further_member
decreases-further_member g l = 4 * members_weight (members_from (g.P.Parts.members_left l.members)) + 1

abbrev pub invariant-print_piled-loop-opened : goal.invariant-print_piled-loop-opened
invariant-print_piled-loop-opened g l = record {
  within : pile_weight g.P.Parts.items_left g.P.Parts.members_left l.pile.items ≤ ahead_weight g.P.Parts.items_left g.P.Parts.members_left l.fn.ahead + 1;
  put : (s : Option ℕ) → IsLayout l.fn.layout s → AreLaid s l.pile.items × Towards (HoldsText g.O.Output.holds) l.fn.out l.out (laid_rest g.P.Parts.items_left g.P.Parts.members_left s l.pile.items) (laid s (ahead_tree g.P.Parts.items_left g.P.Parts.members_left l.fn.ahead));
}

abbrev pub decreases-print_piled-loop-opened : goal.decreases-print_piled-loop-opened
decreases-print_piled-loop-opened g l = pile_weight g.P.Parts.items_left g.P.Parts.members_left l.pile.items

abbrev pub decreases-pile_items : goal.decreases-pile_items
decreases-pile_items g l = 4 * items_weight (items_from (g.P.Parts.items_left l.items)) + 5

abbrev pub decreases-pile_members : goal.decreases-pile_members
decreases-pile_members g l = 4 * members_weight (members_from (g.P.Parts.members_left l.members)) + 5
