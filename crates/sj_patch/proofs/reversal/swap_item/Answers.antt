use Rattle.std.proofs.Common.{option_and_then, map, refl, sym, ap, ◌∙◌, arith}
use Rattle.sj_text_core.specs.Tree.{list, items_from}
use Rattle.sj_text_core.specs.Find.{nth}
use Rattle.sj_text_core.specs.Paths.{set_item, set_placed}
use Rattle.sj_document.specs.Document.{document_tree}
use Rattle.sj_document.proofs.Arrays.{item_at, item_set, none_nth}
use Rattle.sj_patch.proofs.Leaves.{not_swapped, swap_done}
use Rattle.sj_patch.proofs.reversal.swap_item.Goals as goal

pub returns-then-at-len : goal.returns-then-at-len
returns-then-at-len g c =
    let t = g.T.KeyText.text_of in
    let vs = c.args.items.now.items in
    let k = c.args.token.now in
    let is = items_from (map (document_tree t) vs) in
    let v = document_tree t c.args.value in
    let i = c.in-Some.at in
    let old = c.index_mut.result.now in
    swap_done t k v old c.replace.result (list is) _ c.replace.ensures.value
    (ap (option_and_then (λ i. nth i (list is))) (sym c.in-Some.ensures) ∙ item_at t vs i old (omega (arith, c.if-at-len.true, c.len.ensures, c.args.items.now.ok.0)) c.index_mut.ensures.value)
    (ap list (item_set t vs i c.replace.new.dest) ∙ ap (λ w. list (set_item i (document_tree t w) is)) c.replace.ensures.after ∙ ap (λ o. list (set_placed o v is)) c.in-Some.ensures)

pub returns-else-at-len : goal.returns-else-at-len
returns-else-at-len g c =
    let t = g.T.KeyText.text_of in
    let vs = c.args.items.now.items in
    let k = c.args.token.now in
    let is = items_from (map (document_tree t) vs) in
    (refl, not_swapped k (document_tree t c.args.value) (list is) (ap (option_and_then (λ i. nth i (list is))) (sym c.in-Some.ensures) ∙ sym (none_nth t vs c.in-Some.at (omega (arith, c.if-at-len.false, c.len.ensures, c.args.items.now.ok.0)))))
