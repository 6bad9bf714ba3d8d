use Rattle.std.proofs.Common.{◌≡◌, ◌≤◌, ◌+◌, ◌*◌, length}
use Rattle.sj_object.specs.Members.{entry_members}
use Rattle.sj_document.specs.Document.{document_tree}
use Rattle.sj_merge.specs.inner.Log.{log_undone}
use Rattle.sj_merge.proofs.Logs.{depth_of, log_depth}
use Rattle.sj_merge.proofs.in_place.+undo.Given as goal

abbrev pub invariant-undo-loop-last : goal.invariant-undo-loop-last
invariant-undo-loop-last g l =
    let t = g.T.KeyText.text_of in
    record {
      done : log_undone t l.left.items (entry_members (document_tree t) l.into.entries) ≡ log_undone t l.fn.log.items (entry_members (document_tree t) l.fn.into.entries);
      within : log_depth l.left.items ≤ log_depth l.fn.log.items;
    }

abbrev pub decreases-undo-loop-last : goal.decreases-undo-loop-last
decreases-undo-loop-last g l = length l.left.items

abbrev pub decreases-undo : goal.decreases-undo
decreases-undo g l = 3 * log_depth l.log.items + 1

abbrev pub decreases-undo_within : goal.decreases-undo_within
decreases-undo_within g l = 3 * log_depth l.log.items + 2

abbrev pub decreases-undo_one : goal.decreases-undo_one
decreases-undo_one g l = 3 * depth_of l.logged
