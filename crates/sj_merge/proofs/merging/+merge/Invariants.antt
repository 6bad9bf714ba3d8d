use Rattle.std.proofs.Common.{◌≡◌, ◌≤◌, ◌+◌, ◌*◌}
use Rattle.sj_text_core.specs.Tree.{depth, members_depth}
use Rattle.sj_object.specs.Entries.{entries_of}
use Rattle.sj_object.specs.Members.{entry_members}
use Rattle.sj_document.specs.Document.{document_tree}
use Rattle.sj_merge.specs.Merge.{merged_members}
use Rattle.sj_merge.proofs.merging.+merge.Given as goal

abbrev pub invariant-merge_members-loop-key : goal.invariant-merge_members-loop-key
invariant-merge_members-loop-key g l =
    let t = g.T.KeyText.text_of in
    let rest = entry_members (document_tree t) (entries_of t l.key-iterator) in
    record {
      done : merged_members (entry_members (document_tree t) l.into.entries) rest ≡ merged_members (entry_members (document_tree t) l.fn.into.entries) (entry_members (document_tree t) l.fn.members.entries);
      within : members_depth rest ≤ members_depth (entry_members (document_tree t) l.fn.members.entries);
    }

abbrev pub decreases-merge_value : goal.decreases-merge_value
decreases-merge_value g l = 4 * depth (document_tree g.T.KeyText.text_of l.patch)

abbrev pub decreases-merge_object : goal.decreases-merge_object
decreases-merge_object g l = 4 * members_depth (entry_members (document_tree g.T.KeyText.text_of) l.members.entries) + 3

abbrev pub decreases-merge_members : goal.decreases-merge_members
decreases-merge_members g l = 4 * members_depth (entry_members (document_tree g.T.KeyText.text_of) l.members.entries) + 2

abbrev pub decreases-merge_member : goal.decreases-merge_member
decreases-merge_member g l = 4 * depth (document_tree g.T.KeyText.text_of l.value) + 1
