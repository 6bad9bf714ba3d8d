use Rattle.std.proofs.Common.{refl, ap, ◌∙◌}
use Rattle.sj_text_core.specs.declared.error.AccessError.TheVariants.{NotAnObject}
use Rattle.sj_document.specs.Document.{document_tree, edit_fault}
use Rattle.sj_lazy.proofs.Lefts.{left_by}
use Rattle.sj_path.specs.Made.{set_made}
use Rattle.sj_path.proofs.lazy.edits.set.Goals as goal

pub returns-in-Ok-clause-refused : goal.returns-in-Ok-clause-refused
returns-in-Ok-clause-refused g c =
    let left = rw c.in-Ok.is at (c.as_mut.follows.holds c.set.new.value) in
    left_by g.T.KeyText.text_of _ _ _ _ _ c.set.result _ _ _ (left refl) c.in-Ok.ensures.value c.set.ensures.refused (λ r e. e ∙ ap (λ v. edit_fault NotAnObject (set_made c.args.pointer.now (document_tree g.T.KeyText.text_of c.args.new) v)) c.in-Ok.ensures.value) c.set.ensures.kind
