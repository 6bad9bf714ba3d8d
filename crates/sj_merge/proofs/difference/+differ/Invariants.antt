use Rattle.std.proofs.Common.{◌≡◌, ◌≤◌, ◌+◌, ◌*◌, option_map}
use Rattle.sj_text_core.specs.Tree.{depth, members_depth}
use Rattle.sj_object.specs.Entries.{entries_of}
use Rattle.sj_object.specs.Members.{entry_members}
use Rattle.sj_document.specs.Document.{document_tree}
use Rattle.sj_merge.specs.MergeDiff.{removals, patch_members}
use Rattle.sj_merge.proofs.Putting.{put_each}
use Rattle.sj_merge.proofs.difference.+differ.Given as goal

abbrev pub invariant-patch_object-loop-key : goal.invariant-patch_object-loop-key
invariant-patch_object-loop-key g l =
    let t = g.T.KeyText.text_of in
    let ms = entry_members (document_tree t) l.fn.members.entries in
    let ns = entry_members (document_tree t) l.fn.wanted.entries in
    let rest = entry_members (document_tree t) (entries_of t l.key-iterator) in
    record {
      can : (goal.iterator-patch_object-loop-key g).can_next l.key-iterator;
      ends : (goal.iterator-patch_object-loop-key g).is_finite l.key-iterator;
      told : option_map (put_each (entry_members (document_tree t) l.patch.entries)) (patch_members ms rest) ≡ option_map (removals ms ns) (patch_members ms ns);
      within : members_depth rest ≤ members_depth ns;
    }

abbrev pub decreases-patch_object : goal.decreases-patch_object
decreases-patch_object g l = 5 * members_depth (entry_members (document_tree g.T.KeyText.text_of) l.wanted.now.entries) + 1

abbrev pub decreases-patch_new : goal.decreases-patch_new
decreases-patch_new g l = 5 * members_depth (entry_members (document_tree g.T.KeyText.text_of) l.wanted.now.entries) + 2

abbrev pub decreases-patch_from : goal.decreases-patch_from
decreases-patch_from g l = 5 * members_depth (entry_members (document_tree g.T.KeyText.text_of) l.wanted.now.entries) + 3

abbrev pub decreases-change_object : goal.decreases-change_object
decreases-change_object g l = 5 * members_depth (entry_members (document_tree g.T.KeyText.text_of) l.wanted.now.entries) + 4

abbrev pub decreases-change_value : goal.decreases-change_value
decreases-change_value g l = 5 * depth (document_tree g.T.KeyText.text_of l.value.now)
