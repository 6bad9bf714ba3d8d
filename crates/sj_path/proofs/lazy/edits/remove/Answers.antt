use Rattle.std.proofs.Common.{Some, refl, sym, ap, ◌∙◌, option_and_then}
use Rattle.std.proofs.lemmas.Result.{on_ok_weaker}
use Rattle.sj_text_core.specs.Reads.{as_members}
use Rattle.sj_document.specs.Document.{without_member}
use Rattle.sj_pointer.specs.Pointed.{pointed}
use Rattle.sj_lazy.proofs.Lefts.{left_by}
use Rattle.sj_path.specs.Changes.{changed_at}
use Rattle.sj_path.proofs.lazy.edits.remove.Goals as goal

pub returns-in-Ok-clause-after : goal.returns-in-Ok-clause-after
returns-in-Ok-clause-after g c =
    let left = rw c.in-Ok.is at (c.as_mut.follows.holds c.remove.new.value) in
    on_ok_weaker c.remove.result (λ _. left refl ∙ ap Some (c.remove.ensures.after ∙ ap (changed_at c.args.pointer.now (without_member c.args.key.now)) c.in-Ok.ensures.value)) c.remove.ensures.object

pub returns-in-Ok-clause-refused : goal.returns-in-Ok-clause-refused
returns-in-Ok-clause-refused g c =
    let left = rw c.in-Ok.is at (c.as_mut.follows.holds c.remove.new.value) in
    left_by g.T.KeyText.text_of _ _ _ _ _ c.remove.result _ _ _ (left refl) c.in-Ok.ensures.value c.remove.ensures.refused (λ x e. (e.0, sym (ap (λ v. option_and_then as_members (pointed c.args.pointer.now v)) c.in-Ok.ensures.value) ∙ e.1)) c.remove.ensures.kind
