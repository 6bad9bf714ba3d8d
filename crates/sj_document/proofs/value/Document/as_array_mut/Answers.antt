use Rattle.std.proofs.Common.{◌≡◌, Some, refl, sym, ap, ◌∙◌, rules, Box, Vec, Global}
use Rattle.sj_text_core.specs.Reads.{as_items}
use Rattle.sj_document.specs.Document.{document_tree}
use Rattle.sj_document.specs.declared.value.Document.{Document, Array, the_lemmas}
use Rattle.sj_document.proofs.Trees.{tree-Array}
use Rattle.sj_document.proofs.Arrays.{items_seen}
use Rattle.sj_document.proofs.value.Document.as_array_mut.Goals as goal

pub returns-in-Array : goal.returns-in-Array
returns-in-Array g c =
    let t = g.T.KeyText.text_of in (
      (refl, λ w. let b : Box (Vec (Document g.row.T.Denot) Global) Global = record c.in-Array.items { value = w } in ap (document_tree t) (let e : _ ≡ Array b = search (rules, the_lemmas) in e) ∙ tree-Array t b, refl),
      record {
        writes_back = tt;
        value = ap (λ m. Some (items_seen t m.items)) (c.deref_mut.ensures.value ∙ ap (λ b. b.value) c.in-Array.items-is) ∙ sym (ap as_items (ap (document_tree t) c.in-Array.is ∙ tree-Array t c.in-Array.items));
      },
    )
