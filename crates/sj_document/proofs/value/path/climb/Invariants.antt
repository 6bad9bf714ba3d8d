use Rattle.std.proofs.Common.{◌≡◌, ◌≤◌, length, map}
use Rattle.sj_document.specs.Document.{document_tree}
use Rattle.sj_document.specs.inner.Descents.{plug, IsSpine}
use Rattle.sj_document.proofs.value.path.climb.Given as goal

abbrev pub invariant-loop-left : goal.invariant-loop-left
invariant-loop-left g l =
    let t = g.T.KeyText.text_of in
    let p = map g.W.Leads.step_of l.path in
    record {
      within : l.left ≤ length l.path;
      spine : IsSpine p l.left (document_tree t l.up);
      whole : plug p l.left (document_tree t l.up) (document_tree t l.value) ≡ plug p l.fn.depth (document_tree t l.fn.up) (document_tree t l.fn.value);
    }

abbrev pub decreases-loop-left : goal.decreases-loop-left
decreases-loop-left g l = l.left
