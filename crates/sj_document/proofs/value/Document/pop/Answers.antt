use Rattle.std.proofs.Common.{◌≡◌, map, sym, ap, ◌∙◌, rules, Box, Vec, Global}
use Rattle.sj_text_core.specs.Tree.{list, items_from}
use Rattle.sj_text_core.specs.Edits.{front, last}
use Rattle.sj_document.specs.Document.{document_tree, last_item, without_last}
use Rattle.sj_document.specs.declared.value.Document.{Document, Array, the_lemmas}
use Rattle.sj_document.proofs.Trees.{tree-Array}
use Rattle.sj_document.proofs.Arrays.{pop_last, pop_front}
use Rattle.sj_document.proofs.value.Document.pop.Goals as goal

pub returns-in-Array-clause-answer : goal.returns-in-Array-clause-answer
returns-in-Array-clause-answer g c =
    let t = g.T.KeyText.text_of in
    let same = c.deref_mut.ensures.value ∙ ap (λ b. b.value) c.in-Array.items-is in
    pop_last t c.pop.result c.deref_mut.result.now c.pop.new.self c.pop.ensures.items c.pop.ensures.cases ∙ ap (λ v. last (items_from (map (document_tree t) v.items))) same
    ∙ sym (ap last_item (ap (document_tree t) c.in-Array.is ∙ tree-Array t c.in-Array.items))

pub returns-in-Array-clause-after : goal.returns-in-Array-clause-after
returns-in-Array-clause-after g c =
    let t = g.T.KeyText.text_of in
    let same = c.deref_mut.ensures.value ∙ ap (λ b. b.value) c.in-Array.items-is in
    let b : Box (Vec (Document g.row.T.Denot) Global) Global = record c.in-Array.items { value = c.pop.new.self } in
    ap (document_tree t) (let e : _ ≡ Array b = search (rules, the_lemmas) in e) ∙ tree-Array t b
    ∙ ap list (pop_front t c.pop.result c.deref_mut.result.now c.pop.new.self c.pop.ensures.items c.pop.ensures.cases ∙ ap (λ v. front (items_from (map (document_tree t) v.items))) same)
    ∙ sym (ap without_last (ap (document_tree t) c.in-Array.is ∙ tree-Array t c.in-Array.items))
