use Rattle.std.proofs.Common.{option_and_then, map, Ok, refl, sym, ap, ◌∙◌, arith}
use Rattle.sj_text_core.specs.Tree.{list, items_from}
use Rattle.sj_text_core.specs.Find.{nth}
use Rattle.sj_text_core.specs.inner.Find.{or_null}
use Rattle.sj_document.specs.Document.{document_tree}
use Rattle.sj_document.proofs.Arrays.{items_seen, item_at, none_nth}
use Rattle.sj_document.proofs.Placed.{items-remove}
use Rattle.sj_patch.proofs.Leaves.{removed_item, no_item}
use Rattle.sj_patch.proofs.reversal.out_place.Goals as goal

pub returns-then-at-len : goal.returns-then-at-len
returns-then-at-len g c =
    let t = g.T.KeyText.text_of in
    let vs = c.args.items.now.items in
    let k = c.args.token.now in
    let is = items_from (map (document_tree t) vs) in
    let there = item_at t vs c.in-Some.at c.remove.result (omega (arith, c.if-at-len.true, c.len.ensures, c.args.items.now.ok.0)) c.remove.ensures.value in (
      removed_item k c.in-Some.at is (document_tree t c.remove.result) (sym c.in-Some.ensures) there ∙ ap (λ is. Ok (list is)) (sym (ap (items_seen t) c.remove.ensures.items ∙ items-remove t vs c.in-Some.at)),
      sym (ap or_null (ap (option_and_then (λ i. nth i (list is))) (sym c.in-Some.ensures) ∙ there)),
    )

pub returns-else-at-len : goal.returns-else-at-len
returns-else-at-len g c =
    let t = g.T.KeyText.text_of in
    let vs = c.args.items.now.items in
    (refl, no_item c.args.token.now c.in-Some.at (items_from (map (document_tree t) vs)) (sym c.in-Some.ensures) (sym (none_nth t vs c.in-Some.at (omega (arith, c.if-at-len.false, c.len.ensures, c.args.items.now.ok.0)))))
