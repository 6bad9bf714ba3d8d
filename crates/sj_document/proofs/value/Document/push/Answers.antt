use Rattle.std.proofs.Common.{◌≡◌, ◌++◌, [], ◌∷◌, sym, ap, ◌∙◌, rules, Box, Vec, Global}
use Rattle.sj_text_core.specs.Tree.{list}
use Rattle.sj_document.specs.Document.{document_tree, with_item}
use Rattle.sj_document.specs.declared.value.Document.{Document, Array, the_lemmas}
use Rattle.sj_document.proofs.Trees.{tree-Array}
use Rattle.sj_document.proofs.Arrays.{items_seen, items-push}
use Rattle.sj_document.proofs.value.Document.push.Goals as goal

pub returns-in-Ok-clause-after : goal.returns-in-Ok-clause-after
returns-in-Ok-clause-after g c =
    let t = g.T.KeyText.text_of in
    let b : Box (Vec (Document g.row.T.Denot) Global) Global = record c.in-Array.items { value = c.push.new.self } in
    ap (document_tree t) (let e : _ ≡ Array b = search (rules, the_lemmas) in e) ∙ tree-Array t b
    ∙ ap (λ vs. list (items_seen t vs)) (c.in-Ok.ensures.items ∙ ap (λ v. v.items ++ c.args.value ∷ []) (c.deref_mut.ensures.value ∙ ap (λ b. b.value) c.in-Array.items-is))
    ∙ ap list (items-push t c.args.value c.in-Array.items.value.items)
    ∙ sym (ap (with_item (document_tree t c.args.value)) (ap (document_tree t) c.in-Array.is ∙ tree-Array t c.in-Array.items))

pub returns-in-Err-clause-refused : goal.returns-in-Err-clause-refused
returns-in-Err-clause-refused g c =
    let t = g.T.KeyText.text_of in
    let b : Box (Vec (Document g.row.T.Denot) Global) Global = record c.in-Array.items { value = c.push.new.self } in
    ap (document_tree t) (let e : _ ≡ Array b = search (rules, the_lemmas) in e) ∙ tree-Array t b
    ∙ ap (λ vs. list (items_seen t vs)) (c.in-Err.ensures.items ∙ ap (λ v. v.items) (c.deref_mut.ensures.value ∙ ap (λ b. b.value) c.in-Array.items-is))
    ∙ sym (ap (document_tree t) c.in-Array.is ∙ tree-Array t c.in-Array.items)
