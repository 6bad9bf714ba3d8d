use Rattle.std.proofs.Common.{◌≡◌, rules, Box, Vec, Global, ap, ◌∙◌}
use Rattle.sj_document.specs.Document.{document_tree}
use Rattle.sj_document.specs.declared.value.Document.{Document, Object, Array, the_lemmas}
use Rattle.sj_document.proofs.Trees.{Map}
use Rattle.sj_patch.specs.inner.Changed.{Reverts}
use Rattle.sj_patch.specs.declared.reversal.Reversal.TheVariants as reversal
use Rattle.sj_patch.proofs.Holders.{in_object, in_array}
use Rattle.sj_patch.proofs.reversal.swap.Goals as goal

pub returns-in-Object : goal.returns-in-Object
returns-in-Object g c =
    let t = g.T.KeyText.text_of in
    let b : Box (Map g.row.T.Denot) Global = record c.in-Object.members { value = c.swap_member.new.members } in
    in_object t (λ u w. Reverts t reversal.Swap (document_tree t c.args.value) c.args.token.now u w c.swap_member.result) _ _ c.in-Object.members c.deref_mut.result.now c.swap_member.new.members c.in-Object.is (c.deref_mut.ensures.value ∙ ap (λ b. b.value) c.in-Object.members-is) (let e : _ ≡ Object b = search (rules, the_lemmas) in e) c.swap_member.ensures

pub returns-in-Array : goal.returns-in-Array
returns-in-Array g c =
    let t = g.T.KeyText.text_of in
    let b : Box (Vec (Document g.row.T.Denot) Global) Global = record c.in-Array.items { value = c.swap_item.new.items } in
    in_array t (λ u w. Reverts t reversal.Swap (document_tree t c.args.value) c.args.token.now u w c.swap_item.result) _ _ c.in-Array.items c.deref_mut-in-Array.result.now c.swap_item.new.items c.in-Array.is (c.deref_mut-in-Array.ensures.value ∙ ap (λ b. b.value) c.in-Array.items-is) (let e : _ ≡ Array b = search (rules, the_lemmas) in e) c.swap_item.ensures
