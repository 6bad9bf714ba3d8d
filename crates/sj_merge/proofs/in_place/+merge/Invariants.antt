use Rattle.std.proofs.Common.{◌≡◌, ◌≤◌, ◌+◌, ◌*◌, ℕ, true, List}
use Rattle.sj_text_core.specs.Tree.{depth, members_depth}
use Rattle.sj_text_core.specs.Keep.{is_seen}
use Rattle.sj_object.specs.Texts.{no_repeats}
use Rattle.sj_object.specs.Entries.{entries_of, entry_texts}
use Rattle.sj_object.specs.Members.{entry_members}
use Rattle.sj_document.specs.Document.{document_tree}
use Rattle.sj_merge.specs.Merge.{merged_members}
use Rattle.sj_merge.specs.inner.Log.{finished, log_undone, Passes}
use Rattle.sj_merge.proofs.in_place.+merge.Given as goal

abbrev pub invariant-merge_within-loop-key : goal.invariant-merge_within-loop-key
invariant-merge_within-loop-key g l =
    let t = g.T.KeyText.text_of in
    let rest = entries_of t l.key-iterator in
    let before = entry_members (document_tree t) l.fn.into.entries in
    let now = entry_members (document_tree t) l.into.entries in
    let patch = entry_members (document_tree t) l.fn.members.entries in
    record {
      finish : merged_members (finished t l.log.items now) (entry_members (document_tree t) rest) ≡ merged_members before patch;
      undo : log_undone t l.log.items now ≡ before;
      within : members_depth (entry_members (document_tree t) rest) ≤ members_depth patch;
      distinct : no_repeats (entry_texts rest) ≡ true;
      apart : (k : List ℕ) → is_seen k (entry_texts rest) ≡ true → Passes k (finished t l.log.items);
    }

abbrev pub decreases-merge_within : goal.decreases-merge_within
decreases-merge_within g l = 5 * members_depth (entry_members (document_tree g.T.KeyText.text_of) l.members.entries) + 3

abbrev pub decreases-merge_next : goal.decreases-merge_next
decreases-merge_next g l = 5 * depth (document_tree g.T.KeyText.text_of l.value) + 2

abbrev pub decreases-merge_member : goal.decreases-merge_member
decreases-merge_member g l = 5 * depth (document_tree g.T.KeyText.text_of l.value) + 1

abbrev pub decreases-merge_value : goal.decreases-merge_value
decreases-merge_value g l = 5 * depth (document_tree g.T.KeyText.text_of l.value)

abbrev pub decreases-merge_object : goal.decreases-merge_object
decreases-merge_object g l = 5 * members_depth (entry_members (document_tree g.T.KeyText.text_of) l.members.entries) + 4
