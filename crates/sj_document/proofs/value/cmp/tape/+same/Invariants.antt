use Rattle.std.proofs.Common.{◌≡◌, ℕ, ◌≤◌, ◌+◌, ◌*◌, drop, take, length, map}
use Rattle.sj_text_core.specs.Tree.{list, depth, items_depth, members_depth, items_from, paired}
use Rattle.sj_text_core.specs.Agree.{pair_keys}
use Rattle.sj_text_core.specs.inner.Agree.{Agree}
use Rattle.sj_text_core.specs.Same.{SameItems}
use Rattle.sj_text_core.specs.Repeats.{SameBy}
use Rattle.sj_text_core.specs.declared.repeats.Repeats.TheVariants.{First, Last}
use Rattle.sj_tape.specs.Items.{items, items_ahead, items_parts_ahead, array_choice}
use Rattle.sj_tape.specs.Members.{members, members_ahead, chosen_pairs, members_parts_ahead}
use Rattle.sj_tape.specs.Value.{tape_tree}
use Rattle.sj_tape.proofs.Counted.{Counted, part_items}
use Rattle.sj_object.specs.Entries.{entries_of}
use Rattle.sj_object.specs.Members.{entry_members}
use Rattle.sj_document.specs.Document.{document_tree}
use Rattle.sj_document.proofs.value.cmp.tape.+same.Given as goal

abbrev pub invariant-same_items-loop-other : goal.invariant-same_items-loop-other
invariant-same_items-loop-other g l =
    let u = document_tree g.T.KeyText.text_of in
    record {
      on : SameItems (part_items (items_parts_ahead l.items)) (items_from (map u (drop l.other-index l.others))) → SameBy (array_choice l.fn.left) First (list (items l.fn.left)) (list (items_from (map u l.others)));
      off : SameBy (array_choice l.fn.left) First (list (items l.fn.left)) (list (items_from (map u l.others))) → SameItems (part_items (items_parts_ahead l.items)) (items_from (map u (drop l.other-index l.others)));
      lens : length (items_ahead l.items) ≡ length (drop l.other-index l.others);
      within : items_depth (items_from (items_ahead l.items)) ≤ items_depth (items l.fn.left);
    }

abbrev pub invariant-first_in_step-loop-key : goal.invariant-first_in_step-loop-key
invariant-first_in_step-loop-key g l =
    let u = g.T.KeyText.text_of in
    record {
      ahead : drop l.place (paired (members l.fn.left)) ≡ members_ahead l.key-iterator;
      others : drop l.place (paired (entry_members (document_tree u) l.fn.right.entries)) ≡ paired (entry_members (document_tree u) (entries_of u l.others));
      in_step : pair_keys (take l.place (paired (members l.fn.left))) ≡ pair_keys (take l.place (paired (entry_members (document_tree u) l.fn.right.entries)));
      agree : Agree l.place (paired (members l.fn.left)) (paired (entry_members (document_tree u) l.fn.right.entries));
      mine : members_parts_ahead l.key-iterator ≡ chosen_pairs First (members_ahead l.key-iterator);
    }

abbrev pub invariant-first_by_key-loop-key : goal.invariant-first_by_key-loop-key
invariant-first_by_key-loop-key g l =
    let u = g.T.KeyText.text_of in
    record {
      ahead : drop l.at (paired (members l.fn.left)) ≡ members_ahead l.key-iterator;
      agree : Agree l.at (paired (members l.fn.left)) (paired (entry_members (document_tree u) l.fn.right.entries));
      mine : members_parts_ahead l.key-iterator ≡ chosen_pairs First (members_ahead l.key-iterator);
    }

abbrev pub invariant-last_in_step-loop-value : goal.invariant-last_in_step-loop-value
invariant-last_in_step-loop-value g l =
    let u = document_tree g.T.KeyText.text_of in
    let m = members l.fn.left in
    let n = entry_members u l.fn.right.entries in
    record {
      at : (i : ℕ) × (drop i (paired m) ≡ members_ahead l.value-iterator) × (drop i (paired n) ≡ paired (entry_members u (entries_of g.T.KeyText.text_of l.others)));
      counted : Counted First m n (members_ahead l.value-iterator);
      mine : members_parts_ahead l.value-iterator ≡ chosen_pairs Last (members_ahead l.value-iterator);
    }

abbrev pub invariant-last_by_key-loop-key : goal.invariant-last_by_key-loop-key
invariant-last_by_key-loop-key g l =
    record {
      ahead : drop l.seen (paired (members l.fn.left)) ≡ members_ahead l.key-iterator;
      counted : Counted First (members l.fn.left) (entry_members (document_tree g.T.KeyText.text_of) l.fn.right.entries) (members_ahead l.key-iterator);
      mine : members_parts_ahead l.key-iterator ≡ chosen_pairs Last (members_ahead l.key-iterator);
    }

abbrev pub decreases-same_as_tape : goal.decreases-same_as_tape
decreases-same_as_tape g l = 4 * depth (tape_tree l.left)

abbrev pub decreases-same_items : goal.decreases-same_items
decreases-same_items g l = 4 * items_depth (items l.left) + 1

abbrev pub decreases-same_members : goal.decreases-same_members
decreases-same_members g l = 4 * members_depth (members l.left) + 3

abbrev pub decreases-first_in_step : goal.decreases-first_in_step
decreases-first_in_step g l = 4 * members_depth (members l.left) + 2

abbrev pub decreases-first_by_key : goal.decreases-first_by_key
decreases-first_by_key g l = 4 * members_depth (members l.left) + 1

abbrev pub decreases-last_members : goal.decreases-last_members
decreases-last_members g l = 4 * members_depth (members l.left) + 2

abbrev pub decreases-last_in_step : goal.decreases-last_in_step
decreases-last_in_step g l = 4 * members_depth (members l.left) + 1

abbrev pub decreases-last_by_key : goal.decreases-last_by_key
decreases-last_by_key g l = 4 * members_depth (members l.left) + 1
