use Rattle.std.proofs.Common.{◌≡◌, ◌≤◌, rules, false, true, length, refl, sym, ap, ◌∙◌, Ok, arith}
use Rattle.std.specs.List.{insert}
use Rattle.std.specs.Vec.{vec_capacity}
use Rattle.sj_text_core.specs.Tree.{list, items_len}
use Rattle.sj_document.specs.Document.{document_tree}
use Rattle.sj_document.proofs.Arrays.{items_seen, length-items}
use Rattle.sj_document.proofs.Placed.{items-insert}
use Rattle.sj_patch.specs.inner.Changed.{is_placed}
use Rattle.sj_patch.proofs.Backs.{so, not_so, placed-within}
use Rattle.sj_patch.proofs.reversal.restore_item.Goals as goal

pub returns-then-not-has_place : goal.returns-then-not-has_place
returns-then-not-has_place g c =
    let t = g.T.KeyText.text_of in
    let vs = c.args.items.now.items in
    let len : items_len (items_seen t vs) ≡ c.len.result = sym (length-items (document_tree t) vs) ∙ sym c.args.items.now.ok.0 ∙ sym c.len.ensures in
    let h : c.has_place.result ≡ false = search rules in
    (refl, not_so _ _ ((λ j. is_placed (len j) (sym c.capacity.ensures j) c.args.index) ∙ sym c.has_place.ensures ∙ h))

pub returns : goal.returns
returns g c =
    let t = g.T.KeyText.text_of in
    let vs = c.args.items.now.items in
    let i = c.args.index in
    let len : items_len (items_seen t vs) ≡ c.len.result = sym (length-items (document_tree t) vs) ∙ sym c.args.items.now.ok.0 ∙ sym c.len.ensures in
    let h : c.has_place.result ≡ true = search rules in
    let q : is_placed (items_len (items_seen t vs)) (vec_capacity c.args.room) i ≡ true = (λ j. is_placed (len j) (sym c.capacity.ensures j) i) ∙ sym c.has_place.ensures ∙ h in
    let e : c.insert.new.self.items ≡ insert vs i c.args.value = rw (c.insert.ensures.items, c.unwrap-2.ensures, c.append.ensures.items, c.unwrap.ensures, c.clear.ensures.items) refl in
    let among : i ≤ length vs = omega (arith, placed-within _ _ i q, length-items (document_tree t) vs) in
    (so _ _ q ∙ ap (λ is. Ok (list is)) (sym (ap (items_seen t) e ∙ items-insert t vs i c.args.value among)), c.null.ensures)
