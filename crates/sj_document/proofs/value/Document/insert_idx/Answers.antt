use Rattle.std.proofs.Common.{◌≡◌, ◌≤◌, length, option_map, sym, ap, ◌∙◌, rules, arith, Box, Vec, Global}
use Rattle.std.specs.List.{insert}
use Rattle.sj_text_core.specs.Tree.{list, items_len}
use Rattle.sj_text_core.specs.Reads.{as_items}
use Rattle.sj_document.specs.Document.{document_tree}
use Rattle.sj_document.specs.Items.{with_item_at}
use Rattle.sj_document.specs.declared.value.Document.{Document, Array, the_lemmas}
use Rattle.sj_document.proofs.Trees.{tree-Array}
use Rattle.sj_document.proofs.Arrays.{items_seen, length-items}
use Rattle.sj_document.proofs.Placed.{items-insert}
use Rattle.sj_document.proofs.value.Document.insert_idx.Goals as goal

pub insert-requires : goal.insert-requires
insert-requires g c =
    let t = g.T.KeyText.text_of in
    let vs = c.in-Array.items.value.items in
    let h : c.args.index ≤ items_len (items_seen t vs) = c.requires _ (ap (λ u. option_map items_len (as_items u)) (ap (document_tree t) c.in-Array.is ∙ tree-Array t c.in-Array.items)) in
    let same = c.deref_mut.ensures.value ∙ ap (λ b. b.value) c.in-Array.items-is in
    omega (arith, h, length-items (document_tree t) vs, ap (λ v. length v.items) same, c.deref_mut.result.now.ok.0)

pub returns-in-Ok-clause-after : goal.returns-in-Ok-clause-after
returns-in-Ok-clause-after g c =
    let t = g.T.KeyText.text_of in
    let vs = c.in-Array.items.value.items in
    let h : c.args.index ≤ items_len (items_seen t vs) = c.requires _ (ap (λ u. option_map items_len (as_items u)) (ap (document_tree t) c.in-Array.is ∙ tree-Array t c.in-Array.items)) in
    let b : Box (Vec (Document g.row.T.Denot) Global) Global = record c.in-Array.items { value = c.insert.new.self } in
    ap (document_tree t) (let e : _ ≡ Array b = search (rules, the_lemmas) in e) ∙ tree-Array t b
    ∙ ap (λ vs. list (items_seen t vs)) (c.in-Ok.ensures.items ∙ ap (λ v. insert v.items c.args.index c.args.value) (c.deref_mut.ensures.value ∙ ap (λ b. b.value) c.in-Array.items-is))
    ∙ ap list (items-insert t vs c.args.index c.args.value (omega (arith, h, length-items (document_tree t) vs)))
    ∙ sym (ap (with_item_at c.args.index (document_tree t c.args.value)) (ap (document_tree t) c.in-Array.is ∙ tree-Array t c.in-Array.items))

pub returns-in-Err-clause-refused : goal.returns-in-Err-clause-refused
returns-in-Err-clause-refused g c =
    let t = g.T.KeyText.text_of in
    let b : Box (Vec (Document g.row.T.Denot) Global) Global = record c.in-Array.items { value = c.insert.new.self } in
    ap (document_tree t) (let e : _ ≡ Array b = search (rules, the_lemmas) in e) ∙ tree-Array t b
    ∙ ap (λ vs. list (items_seen t vs)) (c.in-Err.ensures.items ∙ ap (λ v. v.items) (c.deref_mut.ensures.value ∙ ap (λ b. b.value) c.in-Array.items-is))
    ∙ sym (ap (document_tree t) c.in-Array.is ∙ tree-Array t c.in-Array.items)
