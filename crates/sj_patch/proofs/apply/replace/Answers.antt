use Rattle.std.proofs.Common.{◌≡◌, Ok, IfErr, OnOk, subst}
use Rattle.std.specs.Prelude.{⊤}
use Rattle.sj_document.specs.Document.{document_tree}
use Rattle.sj_patch.specs.inner.Changed.{Refuses}
use Rattle.sj_patch.proofs.Logged.{swap-replaced}
use Rattle.sj_patch.proofs.apply.replace.Goals as goal

pub returns-clause-ok : goal.returns-clause-ok
returns-clause-ok g c =
    let t = g.T.KeyText.text_of in
    subst (λ x. OnOk c.change.result (x ≡ Ok (document_tree t c.change.new.document))) (swap-replaced t c.args.value c.args.path.now (document_tree t c.args.document.now)) c.change.ensures.ok

pub returns-clause-fault : goal.returns-clause-fault
returns-clause-fault g c =
    let t = g.T.KeyText.text_of in
    subst (λ x. IfErr c.change.result (λ e. Refuses ⊤ e x)) (swap-replaced t c.args.value c.args.path.now (document_tree t c.args.document.now)) c.change.ensures.fault
