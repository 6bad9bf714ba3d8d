use Rattle.std.proofs.Common.{◌≡◌, [], ◌∷◌, ◌++◌, Ok, OnOk, IfErr, map, string_bytes, refl, sym, ap, ◌∙◌, subst}
use Rattle.std.specs.Prelude.{⊤}
use Rattle.sj_text_core.specs.Tree.{Tree}
use Rattle.sj_document.specs.Document.{document_tree}
use Rattle.sj_pointer.specs.Pointed.{pointed}
use Rattle.sj_patch.specs.Patch.{added, onwards, or_missing}
use Rattle.sj_patch.specs.inner.Changed.{Refuses, carried, undone, change_at}
use Rattle.sj_patch.specs.declared.change.Change.TheVariants.{Take}
use Rattle.sj_patch.proofs.Within.{refuses_as, refuses_onwards}
use Rattle.sj_patch.proofs.Logged.{undone-last, logged, take-removed, carried-found}
use Rattle.sj_patch.proofs.steps.carry.Goals as goal

pub returns-in-Ok-clause-ok : goal.returns-in-Ok-clause-ok
returns-in-Ok-clause-ok g c =
    let t = g.T.KeyText.text_of in
    let h = c.in-Ok.ensures in
    let old = document_tree t c.args.document.now in
    let e =
    ap (λ ks. carried ks c.args.path.now old) (sym c.tokens-tokens.ensures) ∙ ap (λ ks. carried (map string_bytes c.tokens-tokens.result.now) ks old) (sym c.tokens.ensures)
    ∙ carried-found t c.in-Ok.gone.taken (map string_bytes c.tokens-tokens.result.now) (map string_bytes c.tokens.result.now) old (document_tree t c.change_to.new.document) h.made h.answer in
    subst (λ x. OnOk c.put_taken-undo.result.1 (x ≡ Ok (document_tree t c.put_taken-undo.new.document))) (sym e) c.put_taken-undo.ensures.ok

pub returns-in-Ok-clause-fault : goal.returns-in-Ok-clause-fault
returns-in-Ok-clause-fault g c =
    let t = g.T.KeyText.text_of in
    let h = c.in-Ok.ensures in
    let old = document_tree t c.args.document.now in
    let e =
    ap (λ ks. carried ks c.args.path.now old) (sym c.tokens-tokens.ensures) ∙ ap (λ ks. carried (map string_bytes c.tokens-tokens.result.now) ks old) (sym c.tokens.ensures)
    ∙ carried-found t c.in-Ok.gone.taken (map string_bytes c.tokens-tokens.result.now) (map string_bytes c.tokens.result.now) old (document_tree t c.change_to.new.document) h.made h.answer in
    subst (λ x. IfErr c.put_taken-undo.result.1 (λ e. Refuses ⊤ e x)) (sym e) c.put_taken-undo.ensures.fault

pub returns-in-Ok-clause-undo : goal.returns-in-Ok-clause-undo
returns-in-Ok-clause-undo g c =
    let t = g.T.KeyText.text_of in
    let gone = c.in-Ok.gone in
    let x = c.put_taken-undo.result.0 in
    let old = c.args.log.now.items in
    let new = document_tree t c.put_taken-undo.new.document in
    let log : c.push.new.self.items ≡ old ++ x ∷ [] = rw (c.push.ensures.items, c.unwrap.ensures, c.reserve.ensures.items) refl in
    ap (λ l. undone t l new) log ∙ undone-last t old x new
    ∙ ap (undone t old) (c.put_taken-undo.ensures.undo ∙ logged t Take gone.undo (document_tree t gone.taken) (map string_bytes c.tokens-tokens.result.now) (document_tree t c.args.document.now) (document_tree t c.change_to.new.document) tt c.in-Ok.ensures.undo)

pub returns-in-Err-clause-fault : goal.returns-in-Err-clause-fault
returns-in-Err-clause-fault g c =
    let t = g.T.KeyText.text_of in
    let from = map string_bytes c.tokens-tokens.result.now in
    let old = document_tree t c.args.document.now in
    let on = λ (u : Tree). onwards (or_missing (pointed from old)) (λ v. added c.args.path.now v u) in
    refuses_as ⊤ c.in-Err.refused.why _ _ (ap (λ ks. carried ks c.args.path.now old) (sym c.tokens-tokens.ensures) ∙ ap (λ r. onwards r on) (sym (take-removed t from old))) (refuses_onwards ⊤ c.in-Err.refused.why (change_at t Take from old) on c.in-Err.ensures.1.0)
