use Rattle.std.proofs.Common.{◌≡◌, [], ◌∷◌, ◌++◌, map, string_bytes, refl, ap, ◌∙◌}
use Rattle.sj_document.specs.Document.{document_tree}
use Rattle.sj_patch.specs.inner.Changed.{undone}
use Rattle.sj_patch.specs.declared.steps.Undo.{Undo}
use Rattle.sj_patch.specs.declared.steps.Undo.TheVariants.{Change}
use Rattle.sj_patch.proofs.Logged.{undone-last, logged}
use Rattle.sj_patch.proofs.steps.change.Goals as goal

pub returns-in-Ok-clause-undo : goal.returns-in-Ok-clause-undo
returns-in-Ok-clause-undo g c =
    let t = g.T.KeyText.text_of in
    let done = c.in-Ok.done in
    let x : Undo g.row.T.Denot = Change c.tokens-tokens.result done.undo done.taken in
    let old = c.args.log.now.items in
    let new = document_tree t c.change_to.new.document in
    let log : c.push.new.self.items ≡ old ++ x ∷ [] = rw (c.push.ensures.items, c.unwrap.ensures, c.reserve.ensures.items) refl in
    ap (λ l. undone t l new) log ∙ undone-last t old x new
    ∙ ap (undone t old) (logged t c.args.change done.undo (document_tree t done.taken) (map string_bytes c.tokens-tokens.result.now) (document_tree t c.args.document.now) new c.requires c.in-Ok.ensures.undo)
