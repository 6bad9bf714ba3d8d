use Rattle.std.proofs.Common.{◌≡◌, ◌≤◌, ◌+◌, ◌*◌, ◌++◌, map}
use Rattle.std.specs.Vec.Iter.{into_iter_items}
use Rattle.sj_text_core.specs.Tree.{depth, items_depth, members_depth, items_from}
use Rattle.sj_object.specs.Entries.{entries_of}
use Rattle.sj_object.specs.Members.{entry_members}
use Rattle.sj_object.proofs.Walks.{put_all}
use Rattle.sj_document.specs.Document.{document_tree}
use Rattle.sj_document.proofs.value.convert.+convert.Given as goal

abbrev pub invariant-convert_items-loop-item : goal.invariant-convert_items-loop-item
invariant-convert_items-loop-item g l =
    let t = g.T.KeyText.text_of in
    let u = g.U.KeyText.text_of in
    let rest = into_iter_items l.item-iterator in
    record {
      made : map (document_tree u) l.made.items ++ map (document_tree t) rest ≡ map (document_tree t) l.fn.items.items;
      within : items_depth (items_from (map (document_tree t) rest)) ≤ items_depth (items_from (map (document_tree t) l.fn.items.items));
    }

abbrev pub invariant-convert_members-loop-key : goal.invariant-convert_members-loop-key
invariant-convert_members-loop-key g l =
    let t = g.T.KeyText.text_of in
    let u = g.U.KeyText.text_of in
    let rest = entries_of t l.key-iterator in
    record {
      made : put_all (document_tree t) (entry_members (document_tree u) l.made.entries) rest ≡ entry_members (document_tree t) l.fn.members.entries;
      within : members_depth (entry_members (document_tree t) rest) ≤ members_depth (entry_members (document_tree t) l.fn.members.entries);
    }

abbrev pub decreases-convert_within : goal.decreases-convert_within
decreases-convert_within g l = 2 * depth (document_tree g.T.KeyText.text_of l.value)

abbrev pub decreases-convert_items : goal.decreases-convert_items
decreases-convert_items g l = 2 * items_depth (items_from (map (document_tree g.T.KeyText.text_of) l.items.items)) + 1

abbrev pub decreases-convert_members : goal.decreases-convert_members
decreases-convert_members g l = 2 * members_depth (entry_members (document_tree g.T.KeyText.text_of) l.members.entries) + 1
