use Rattle.std.proofs.Common.{Some, refl, sym, ap, ◌∙◌, option_and_then}
use Rattle.std.proofs.lemmas.Result.{on_ok_weaker}
use Rattle.sj_text_core.specs.Reads.{as_items}
use Rattle.sj_document.specs.Document.{without_last}
use Rattle.sj_pointer.specs.Pointed.{pointed}
use Rattle.sj_lazy.proofs.Lefts.{left_by}
use Rattle.sj_path.specs.Changes.{changed_at}
use Rattle.sj_path.proofs.lazy.edits.pop.Goals as goal

pub returns-in-Ok-clause-after : goal.returns-in-Ok-clause-after
returns-in-Ok-clause-after g c =
    let left = rw c.in-Ok.is at (c.as_mut.follows.holds c.pop.new.value) in
    on_ok_weaker c.pop.result (λ _. left refl ∙ ap Some (c.pop.ensures.after ∙ ap (changed_at c.args.pointer.now (without_last)) c.in-Ok.ensures.value)) c.pop.ensures.array

pub returns-in-Ok-clause-refused : goal.returns-in-Ok-clause-refused
returns-in-Ok-clause-refused g c =
    let left = rw c.in-Ok.is at (c.as_mut.follows.holds c.pop.new.value) in
    left_by g.T.KeyText.text_of _ _ _ _ _ c.pop.result _ _ _ (left refl) c.in-Ok.ensures.value c.pop.ensures.refused (λ x e. (e.0, sym (ap (λ v. option_and_then as_items (pointed c.args.pointer.now v)) c.in-Ok.ensures.value) ∙ e.1)) c.pop.ensures.kind
