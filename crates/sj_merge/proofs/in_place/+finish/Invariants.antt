use Rattle.std.proofs.Common.{◌≡◌, ◌≤◌, ◌+◌, ◌*◌}
use Rattle.std.specs.Vec.Iter.{into_iter_items}
use Rattle.sj_object.specs.Members.{entry_members}
use Rattle.sj_document.specs.Document.{document_tree}
use Rattle.sj_merge.specs.inner.Log.{finished}
use Rattle.sj_merge.proofs.Logs.{depth_of, log_depth}
use Rattle.sj_merge.proofs.in_place.+finish.Given as goal

abbrev pub invariant-finish-loop-logged : goal.invariant-finish-loop-logged
invariant-finish-loop-logged g l =
    let t = g.T.KeyText.text_of in
    let rest = into_iter_items l.logged-iterator in
    record {
      done : finished t rest (entry_members (document_tree t) l.into.entries) ≡ finished t l.fn.log.items (entry_members (document_tree t) l.fn.into.entries);
      within : log_depth rest ≤ log_depth l.fn.log.items;
    }

abbrev pub decreases-finish : goal.decreases-finish
decreases-finish g l = 3 * log_depth l.log.items + 1

abbrev pub decreases-finish_within : goal.decreases-finish_within
decreases-finish_within g l = 3 * log_depth l.log.items + 2

abbrev pub decreases-finish_one : goal.decreases-finish_one
decreases-finish_one g l = 3 * depth_of l.logged
