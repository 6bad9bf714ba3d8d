use Rattle.std.proofs.Common.{◌≡◌, ◌≤◌, Some, length, map, refl, sym, ap, ◌∙◌, arith}
use Rattle.sj_text_core.specs.Tree.{list, items_from, items_len}
use Rattle.sj_document.specs.Document.{document_tree}
use Rattle.sj_document.proofs.Arrays.{items_seen, length-items}
use Rattle.sj_document.proofs.Placed.{items-insert}
use Rattle.sj_patch.specs.Patch.{place_among}
use Rattle.sj_patch.proofs.Leaves.{item_put, item_not_put}
use Rattle.sj_patch.proofs.change.put_item.Goals as goal

pub returns-in-Ok : goal.returns-in-Ok
returns-in-Ok g c =
    let t = g.T.KeyText.text_of in
    let vs = c.args.items.now.items in
    let k = c.args.token.now in
    let v = c.args.value in
    let i = c.in-Some.at in
    let is = items_from (map (document_tree t) vs) in
    let len : items_len is ≡ c.len.result = sym (length-items (document_tree t) vs) ∙ sym c.args.items.now.ok.0 ∙ sym c.len.ensures in
    let named : place_among (items_len is) k ≡ Some i = ap (λ n. place_among n k) len ∙ sym c.in-Some.ensures.place in
    let within : i ≤ items_len is = omega (arith, len, c.in-Some.ensures.within) in
    let among : i ≤ length vs = omega (arith, within, length-items (document_tree t) vs) in
    item_put t k i v is _ _ named within (ap list (ap (items_seen t) c.in-Ok.ensures.items ∙ items-insert t vs i v among))

pub returns-in_default : goal.returns-in_default
returns-in_default g c =
    let t = g.T.KeyText.text_of in
    let vs = c.args.items.now.items in
    let is = items_from (map (document_tree t) vs) in
    let len : items_len is ≡ c.len.result = sym (length-items (document_tree t) vs) ∙ sym c.args.items.now.ok.0 ∙ sym c.len.ensures in
    (refl, (item_not_put t c.args.token.now (document_tree t c.args.value) is (ap (λ n. place_among n c.args.token.now) len ∙ sym c.place.ensures.place ∙ c.in_default.is), refl))
