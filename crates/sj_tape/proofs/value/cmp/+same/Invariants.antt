use Rattle.std.proofs.Common.{◌≡◌, ◌≤◌, ◌+◌, ◌*◌, length, drop, take}
use Rattle.sj_text_core.specs.Tree.{list, depth, items_depth, members_depth, items_from, paired}
use Rattle.sj_text_core.specs.Same.{SameItems}
use Rattle.sj_text_core.specs.Agree.{pair_keys}
use Rattle.sj_text_core.specs.inner.Agree.{Agree}
use Rattle.sj_text_core.specs.Repeats.{SameBy}
use Rattle.sj_text_core.specs.declared.repeats.Repeats.TheVariants.{First, Last}
use Rattle.sj_tape.specs.Items.{items, items_ahead, items_parts_ahead, array_choice}
use Rattle.sj_tape.specs.Members.{members, members_ahead, object_choice, chosen_pairs, members_parts_ahead}
use Rattle.sj_tape.specs.Value.{tape_tree}
use Rattle.sj_tape.proofs.Counted.{Counted, part_items}
use Rattle.sj_tape.proofs.value.cmp.+same.Given as goal

abbrev pub invariant-same_items-loop-item : goal.invariant-same_items-loop-item
invariant-same_items-loop-item l =
    record {
      on : SameItems (part_items (items_parts_ahead l.item-iterator)) (part_items (items_parts_ahead l.others)) → SameBy (array_choice l.fn.left) (array_choice l.fn.right) (list (items l.fn.left)) (list (items l.fn.right));
      off : SameBy (array_choice l.fn.left) (array_choice l.fn.right) (list (items l.fn.left)) (list (items l.fn.right)) → SameItems (part_items (items_parts_ahead l.item-iterator)) (part_items (items_parts_ahead l.others));
      lens : length (items_ahead l.item-iterator) ≡ length (items_ahead l.others);
      within : items_depth (items_from (items_ahead l.item-iterator)) ≤ items_depth (items l.fn.left);
      others_within : items_depth (items_from (items_ahead l.others)) ≤ items_depth (items l.fn.right);
    }

abbrev pub invariant-first_in_step-loop-key : goal.invariant-first_in_step-loop-key
invariant-first_in_step-loop-key l =
    record {
      ahead : drop l.place (paired (members l.fn.left)) ≡ members_ahead l.key-iterator;
      others : drop l.place (paired (members l.fn.right)) ≡ members_ahead l.others;
      in_step : pair_keys (take l.place (paired (members l.fn.left))) ≡ pair_keys (take l.place (paired (members l.fn.right)));
      agree : Agree l.place (paired (members l.fn.left)) (paired (members l.fn.right));
      mine : members_parts_ahead l.key-iterator ≡ chosen_pairs First (members_ahead l.key-iterator);
      theirs : members_parts_ahead l.others ≡ chosen_pairs First (members_ahead l.others);
    }

abbrev pub invariant-first_by_key-loop-key : goal.invariant-first_by_key-loop-key
invariant-first_by_key-loop-key l =
    record {
      ahead : drop l.at (paired (members l.fn.left)) ≡ members_ahead l.key-iterator;
      agree : Agree l.at (paired (members l.fn.left)) (paired (members l.fn.right));
      mine : members_parts_ahead l.key-iterator ≡ chosen_pairs First (members_ahead l.key-iterator);
    }

abbrev pub invariant-last_in_step-loop-key : goal.invariant-last_in_step-loop-key
invariant-last_in_step-loop-key l =
    let m = members l.fn.left in
    let n = members l.fn.right in
    record {
      ahead : drop l.seen (paired m) ≡ members_ahead l.key-iterator;
      others : drop l.seen (paired n) ≡ members_ahead l.others;
      counted : Counted Last m n (members_ahead l.key-iterator);
      mine : members_parts_ahead l.key-iterator ≡ chosen_pairs Last (members_ahead l.key-iterator);
      theirs : members_parts_ahead l.others ≡ chosen_pairs Last (members_ahead l.others);
    }

abbrev pub invariant-last_by_key-loop-key : goal.invariant-last_by_key-loop-key
invariant-last_by_key-loop-key l =
    record {
      ahead : drop l.seen (paired (members l.fn.left)) ≡ members_ahead l.key-iterator;
      counted : Counted (object_choice l.fn.right) (members l.fn.left) (members l.fn.right) (members_ahead l.key-iterator);
      mine : members_parts_ahead l.key-iterator ≡ chosen_pairs Last (members_ahead l.key-iterator);
    }

-- both sides: objects may be compared the other way round
abbrev pub decreases-same_parts : goal.decreases-same_parts
decreases-same_parts l = 2 * (depth (tape_tree l.left) + depth (tape_tree l.right))

abbrev pub decreases-same_items : goal.decreases-same_items
decreases-same_items l = 2 * (items_depth (items l.left) + items_depth (items l.right)) + 1

abbrev pub decreases-same_members : goal.decreases-same_members
decreases-same_members l = 2 * (members_depth (members l.left) + members_depth (members l.right)) + 3

abbrev pub decreases-first_in_step : goal.decreases-first_in_step
decreases-first_in_step l = 2 * (members_depth (members l.left) + members_depth (members l.right)) + 2

abbrev pub decreases-first_by_key : goal.decreases-first_by_key
decreases-first_by_key l = 2 * (members_depth (members l.left) + members_depth (members l.right)) + 1

abbrev pub decreases-last_members : goal.decreases-last_members
decreases-last_members l = 2 * (members_depth (members l.left) + members_depth (members l.right)) + 2

abbrev pub decreases-last_in_step : goal.decreases-last_in_step
decreases-last_in_step l = 2 * (members_depth (members l.left) + members_depth (members l.right)) + 1

abbrev pub decreases-last_by_key : goal.decreases-last_by_key
decreases-last_by_key l = 2 * (members_depth (members l.left) + members_depth (members l.right)) + 1
