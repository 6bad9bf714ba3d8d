use Rattle.std.proofs.Common.{Some, refl, ap, ◌∙◌, option_and_then}
use Rattle.std.proofs.lemmas.Result.{on_ok_weaker}
use Rattle.sj_text_core.specs.Reads.{as_items}
use Rattle.sj_text_core.specs.declared.error.AccessError.TheVariants.{NotAnArray}
use Rattle.sj_document.specs.Document.{document_tree, edit_fault, with_item}
use Rattle.sj_pointer.specs.Pointed.{pointed}
use Rattle.sj_lazy.proofs.Lefts.{left_by}
use Rattle.sj_path.specs.Changes.{changed_at}
use Rattle.sj_path.proofs.lazy.edits.push.Goals as goal

pub returns-in-Ok-clause-after : goal.returns-in-Ok-clause-after
returns-in-Ok-clause-after g c =
    let left = rw c.in-Ok.is at (c.as_mut.follows.holds c.push.new.value) in
    on_ok_weaker c.push.result (λ e. left refl ∙ ap Some (e ∙ ap (changed_at c.args.pointer.now (with_item (document_tree g.T.KeyText.text_of c.args.new))) c.in-Ok.ensures.value)) c.push.ensures.after

pub returns-in-Ok-clause-refused : goal.returns-in-Ok-clause-refused
returns-in-Ok-clause-refused g c =
    let left = rw c.in-Ok.is at (c.as_mut.follows.holds c.push.new.value) in
    left_by g.T.KeyText.text_of _ _ _ _ _ c.push.result _ _ _ (left refl) c.in-Ok.ensures.value c.push.ensures.refused (λ r e. e ∙ ap (λ v. edit_fault NotAnArray (option_and_then as_items (pointed c.args.pointer.now v))) c.in-Ok.ensures.value) c.push.ensures.kind
