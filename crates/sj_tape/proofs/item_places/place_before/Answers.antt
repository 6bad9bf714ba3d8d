use Rattle.std.proofs.Common.{rules, ◌≡◌, ◌-◌, ◌*◌, ◌<◌, ◌≤◌, length, get_or, take, drop, sym, ap, ◌∙◌, subst, arith}
use Rattle.std.proofs.lemmas.Grind.{get_or_default_zero}
use Rattle.sj_text_core.specs.Tree.{items_len}
use Rattle.sj_tape.specs.Marks.{packed_marks}
use Rattle.sj_tape.specs.Parts.{items_in}
use Rattle.sj_tape.specs.inner.Parts.{ItemsFrom}
use Rattle.sj_tape.specs.inner.Places.{IsArrayPlaced, item_at}
use Rattle.sj_tape.proofs.ItemPlaces.{item_from}
use Rattle.sj_tape.proofs.item_places.place_before.Goals as goal

pub returns-clause-there : goal.returns-clause-there
returns-clause-there c =
    let ns = packed_marks c.args._nodes.now in
    let array = c.index-arrays-index.result in
    let part = drop c.args.start (take c.args.end ns) in
    let kept = c.min-kept.result - 1 in
    let placed : IsArrayPlaced ns array = subst (λ a. IsArrayPlaced ns a) (sym c.index-arrays-index.is) (c.requires.placed c.index_of-index.result array (omega (arith, c.if-index-arrays.false))) in
    let same : part ≡ drop array.start (take array.end ns) =
    ap (λ k. drop k (take c.args.end ns)) (sym c.if-array-start.false) ∙ ap (λ k. drop array.start (take k ns)) (omega (arith, c.if-array-end.false)) in
    let within : kept < length array.places.items = search rules in
    let here : c.index.result.now ≡ get_or array.places.items kept 0 = c.index.ensures ∙ get_or_default_zero array.places.items kept c.index.result.now within in
    let place : item_at part (kept * 64) ≡ c.index.result.now = ap (λ l. item_at l (kept * 64)) same ∙ sym (placed kept within) ∙ sym here in
    let before : kept * 64 ≤ items_len (items_in part) = omega (arith, c.min-kept.ensures, c.requires.some) in
    subst (λ p. ItemsFrom part (kept * 64) p) place (item_from part c.requires.are (kept * 64) before)
