use Rattle.std.proofs.Common.{◌≡◌, map, sym, ap, ◌∙◌, rules, Box, Vec, Global}
use Rattle.sj_text_core.specs.Tree.{list, items_from}
use Rattle.sj_text_core.specs.Find.{nth, nth_item}
use Rattle.sj_document.specs.Document.{document_tree}
use Rattle.sj_document.specs.Items.{remove_at, without_item_at}
use Rattle.sj_document.specs.declared.value.Document.{Document, Array, the_lemmas}
use Rattle.sj_document.proofs.Trees.{tree-Array}
use Rattle.sj_document.proofs.value.Document.remove_idx.Goals as goal

pub returns-in-Array-clause-answer : goal.returns-in-Array-clause-answer
returns-in-Array-clause-answer g c =
    let t = g.T.KeyText.text_of in
    let same = c.deref_mut.ensures.value ∙ ap (λ b. b.value) c.in-Array.items-is in
    c.take_out.ensures.answer ∙ ap (λ v. nth_item c.args.index (items_from (map (document_tree t) v.items))) same ∙ sym (ap (nth c.args.index) (ap (document_tree t) c.in-Array.is ∙ tree-Array t c.in-Array.items))

pub returns-in-Array-clause-after : goal.returns-in-Array-clause-after
returns-in-Array-clause-after g c =
    let t = g.T.KeyText.text_of in
    let same = c.deref_mut.ensures.value ∙ ap (λ b. b.value) c.in-Array.items-is in
    let b : Box (Vec (Document g.row.T.Denot) Global) Global = record c.in-Array.items { value = c.take_out.new.items } in
    ap (document_tree t) (let e : _ ≡ Array b = search (rules, the_lemmas) in e) ∙ tree-Array t b
    ∙ ap list (c.take_out.ensures.after ∙ ap (λ v. remove_at c.args.index (items_from (map (document_tree t) v.items))) same)
    ∙ sym (ap (without_item_at c.args.index) (ap (document_tree t) c.in-Array.is ∙ tree-Array t c.in-Array.items))
