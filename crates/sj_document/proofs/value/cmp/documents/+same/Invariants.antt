use Rattle.std.proofs.Common.{◌≡◌, ◌≤◌, ◌+◌, ◌*◌, length, map}
use Rattle.sj_text_core.specs.Tree.{depth, items_depth, members_depth, items_from}
use Rattle.sj_object.specs.Entries.{entries_of}
use Rattle.sj_object.specs.Members.{entry_members}
use Rattle.sj_document.specs.Document.{document_tree}
use Rattle.sj_document.proofs.Compared.{EachFound, EachThere, SameFrom}
use Rattle.sj_document.proofs.value.cmp.documents.+same.Given as goal

abbrev pub invariant-same_items-loop-i : goal.invariant-same_items-loop-i
invariant-same_items-loop-i g l =
    let t = document_tree g.T.KeyText.text_of in
    let u = document_tree g.U.KeyText.text_of in
    record {
      lens : length l.items ≡ length l.others;
      on : SameFrom t u l.i l.items l.others → SameFrom t u 0 l.items l.others;
      off : SameFrom t u 0 l.items l.others → SameFrom t u l.i l.items l.others;
    }

abbrev pub invariant-same_members-loop-key : goal.invariant-same_members-loop-key
invariant-same_members-loop-key g l =
    let t = g.T.KeyText.text_of in
    let u = g.U.KeyText.text_of in
    let others = entry_members (document_tree u) l.fn.right.entries in
    record {
      can : (goal.iterator-same_members-loop-key g).can_next l.key-iterator;
      ends : (goal.iterator-same_members-loop-key g).is_finite l.key-iterator;
      on : EachFound (entry_members (document_tree t) (entries_of t l.key-iterator)) others → EachFound (entry_members (document_tree t) l.fn.left.entries) others;
      off : EachFound (entry_members (document_tree t) l.fn.left.entries) others → EachFound (entry_members (document_tree t) (entries_of t l.key-iterator)) others;
      near : EachThere (entries_of u l.others) l.fn.right.entries;
      within : members_depth (entry_members (document_tree t) (entries_of t l.key-iterator)) ≤ members_depth (entry_members (document_tree t) l.fn.left.entries);
    }

abbrev pub decreases-same_values : goal.decreases-same_values
decreases-same_values g l = 2 * depth (document_tree g.T.KeyText.text_of l.left.now)

abbrev pub decreases-same_items : goal.decreases-same_items
decreases-same_items g l = 2 * items_depth (items_from (map (document_tree g.T.KeyText.text_of) l.left.now.items)) + 1

abbrev pub decreases-same_members : goal.decreases-same_members
decreases-same_members g l = 2 * members_depth (entry_members (document_tree g.T.KeyText.text_of) l.left.now.entries) + 1
