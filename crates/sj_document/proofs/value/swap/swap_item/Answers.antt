use Rattle.std.proofs.Common.{◌≡◌, ◌<◌, ◌≤◌, length, get_or, map, refl, sym, ap, ◌∙◌, rules, arith, Box, Vec, Global}
use Rattle.std.specs.Vec.{with_item}
use Rattle.sj_text_core.specs.Tree.{list, items_from}
use Rattle.sj_text_core.specs.Find.{nth}
use Rattle.sj_text_core.specs.Paths.{set_item, by_place, set_found}
use Rattle.sj_document.specs.Document.{document_tree}
use Rattle.sj_document.specs.declared.value.Document.{Document, Array, the_lemmas}
use Rattle.sj_document.proofs.Trees.{tree-Array}
use Rattle.sj_document.proofs.Arrays.{item_at, item_set, none_nth}
use Rattle.sj_document.proofs.value.swap.swap_item.Goals as goal

pub returns-then-place-len : goal.returns-then-place-len
returns-then-place-len g c =
    let t = g.T.KeyText.text_of in
    let i = c.args.place in
    let v = c.deref_mut.result.now in
    let b : Box (Vec (Document g.row.T.Denot) Global) Global = record c.in-Array.items { value = with_item v i c.replace.new.dest } in
    let same : v ≡ c.in-Array.items.value = c.deref_mut.ensures.value ∙ ap (λ b. b.value) c.in-Array.items-is in
    let n : document_tree t c.args.value.now ≡ list (items_from (map (document_tree t) v.items)) = ap (document_tree t) c.in-Array.is ∙ tree-Array t c.in-Array.items ∙ ap (λ v. list (items_from (map (document_tree t) v.items))) (sym same) in
    let l : i < length v.items = search (rules, arith) in
    let d : c.replace.result ≡ get_or v.items i c.replace.result = search rules in (
      ap (nth i) n ∙ item_at t v.items i c.replace.result l d,
      ap (document_tree t) (let e : _ ≡ Array b = search (rules, the_lemmas) in e) ∙ tree-Array t b ∙ ap list (item_set t v.items i c.replace.new.dest)
          ∙ ap (λ x. list (set_item i (document_tree t x) (items_from (map (document_tree t) v.items)))) c.replace.ensures.after ∙ sym (ap (set_found (by_place i) (document_tree t c.args.other)) n),
    )

pub returns-else-place-len : goal.returns-else-place-len
returns-else-place-len g c =
    let t = g.T.KeyText.text_of in
    let i = c.args.place in
    let v = c.in-Array.items.value in
    let n : document_tree t c.args.value.now ≡ list (items_from (map (document_tree t) v.items)) = ap (document_tree t) c.in-Array.is ∙ tree-Array t c.in-Array.items in
    let same : c.deref.result.now.items ≡ v.items = ap (λ v. v.items) (c.deref.ensures ∙ ap (λ b. b.value) c.in-Array.items-is) in
    let l : length v.items ≤ i = omega (arith, c.if-place-len.false, c.len.ensures, c.deref.result.now.ok.0, ap length same) in (
      ap (nth i) n ∙ sym (none_nth t v.items i l),
      ap (document_tree t) (let e : _ ≡ Array c.in-Array.items = search (rules, the_lemmas) in e) ∙ tree-Array t c.in-Array.items ∙ sym n,
      refl,
    )
