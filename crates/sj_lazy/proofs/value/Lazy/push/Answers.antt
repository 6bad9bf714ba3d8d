use Rattle.std.proofs.Common.{refl, ap, ◌∙◌}
use Rattle.sj_text_core.specs.Reads.{as_items}
use Rattle.sj_text_core.specs.declared.error.AccessError.TheVariants.{NotAnArray}
use Rattle.sj_document.specs.Document.{edit_fault}
use Rattle.sj_lazy.proofs.Lefts.{left_by}
use Rattle.sj_lazy.proofs.value.Lazy.push.Goals as goal

pub returns-in-Ok-clause-refused : goal.returns-in-Ok-clause-refused
returns-in-Ok-clause-refused g c =
    let left = rw c.in-Ok.is at (c.as_mut.follows.holds c.push.new.self) in
    left_by g.T.KeyText.text_of _ _ _ _ _ c.push.result _ _ _ (left refl) c.in-Ok.ensures.value c.push.ensures.refused (λ r e. e ∙ ap (λ v. edit_fault NotAnArray (as_items v)) c.in-Ok.ensures.value) c.push.ensures.kind
