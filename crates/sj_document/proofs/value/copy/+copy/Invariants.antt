use Rattle.std.proofs.Common.{◌≡◌, ◌≤◌, ◌+◌, ◌*◌, map, take}
use Rattle.sj_text_core.specs.Tree.{depth, items_depth, members_depth, items_from}
use Rattle.sj_object.specs.Entries.{entries_of}
use Rattle.sj_object.specs.Members.{entry_members}
use Rattle.sj_object.proofs.Walks.{put_all}
use Rattle.sj_document.specs.Document.{document_tree}
use Rattle.sj_document.proofs.value.copy.+copy.Given as goal

abbrev pub invariant-copy_items-loop-item : goal.invariant-copy_items-loop-item
invariant-copy_items-loop-item g l =
    map (document_tree g.T.KeyText.text_of) l.copies.items ≡ map (document_tree g.T.KeyText.text_of) (take l.item-index l.item-items)

abbrev pub invariant-copy_members-loop-key : goal.invariant-copy_members-loop-key
invariant-copy_members-loop-key g l =
    let t = g.T.KeyText.text_of in
    record {
      can : (goal.iterator-copy_members-loop-key g).can_next l.key-iterator;
      ends : (goal.iterator-copy_members-loop-key g).is_finite l.key-iterator;
      copied : put_all (document_tree t) (entry_members (document_tree t) l.copies.entries) (entries_of t l.key-iterator) ≡ entry_members (document_tree t) l.members.entries;
      within : members_depth (entry_members (document_tree t) (entries_of t l.key-iterator)) ≤ members_depth (entry_members (document_tree t) l.members.entries);
    }

abbrev pub decreases-copy : goal.decreases-copy
decreases-copy g l = 2 * depth (document_tree g.T.KeyText.text_of l.value.now)

abbrev pub decreases-copy_items : goal.decreases-copy_items
decreases-copy_items g l = 2 * items_depth (items_from (map (document_tree g.T.KeyText.text_of) l.items.now.items)) + 1

abbrev pub decreases-copy_members : goal.decreases-copy_members
decreases-copy_members g l = 2 * members_depth (entry_members (document_tree g.T.KeyText.text_of) l.members.now.entries) + 1
