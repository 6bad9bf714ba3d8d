use Rattle.std.proofs.Common.{◌≡◌, [], ◌∷◌, ◌++◌, refl, sym, ap, ◌∙◌}
use Rattle.sj_document.specs.Document.{document_tree}
use Rattle.sj_patch.specs.inner.Changed.{undone}
use Rattle.sj_patch.proofs.Logged.{undone-last}
use Rattle.sj_patch.proofs.removals.remove_beside.Goals as goal

pub returns-clause-undo : goal.returns-clause-undo
returns-clause-undo g c =
    let t = g.T.KeyText.text_of in
    let rest = c.pop.new.self.items in
    let last = c.take_beside_last-last.result.0 in
    let old = document_tree t c.args.document.now in
    let new = document_tree t c.take_beside_last-last.new.document in
    let log : c.push.new.self.items ≡ rest ++ last ∷ [] = rw (c.push.ensures.items, c.unwrap.ensures) refl in
    ap (λ l. undone t l new) log ∙ undone-last t rest last new ∙ ap (undone t rest) c.take_beside_last-last.ensures.undo ∙ sym (undone-last t rest c.in-Some.last old) ∙ ap (λ l. undone t l old) (sym c.in-Some.ensures.items)
    ∙ c.gather.ensures old
