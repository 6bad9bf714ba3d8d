use Rattle.std.proofs.Common.{◌≡◌, rules, Box, Vec, Global, ap, ◌∙◌}
use Rattle.sj_document.specs.Document.{document_tree}
use Rattle.sj_document.specs.declared.value.Document.{Document, Array, the_lemmas}
use Rattle.sj_patch.specs.inner.Changed.{Reverts}
use Rattle.sj_patch.specs.declared.reversal.Reversal.TheVariants as reversal
use Rattle.sj_patch.proofs.Holders.{in_array}
use Rattle.sj_patch.proofs.reversal.put_back_item.Goals as goal

pub returns-in-Array : goal.returns-in-Array
returns-in-Array g c =
    let t = g.T.KeyText.text_of in
    let b : Box (Vec (Document g.row.T.Denot) Global) Global = record c.in-Array.items { value = c.restore_item.new.items } in
    in_array t (λ u w. Reverts t (reversal.ItemBack c.args.room c.args.index) (document_tree t c.args.value) c.args.token.now u w c.restore_item.result) _ _ c.in-Array.items c.deref_mut.result.now c.restore_item.new.items c.in-Array.is (c.deref_mut.ensures.value ∙ ap (λ b. b.value) c.in-Array.items-is) (let e : _ ≡ Array b = search (rules, the_lemmas) in e) c.restore_item.ensures
