use Rattle.std.proofs.Common.{◌≡◌, true, false, length, refl, sym, ap, ◌∙◌, arith}
use Rattle.std.specs.List.{insert}
use Rattle.sj_patch.specs.inner.Changed.{is_placed}
use Rattle.sj_patch.proofs.Backs.{placed-below, placed-within}
use Rattle.sj_patch.proofs.Gathered.{fill_placed, fill_unplaced}
use Rattle.sj_patch.proofs.gaps.put_back_items.Goals as goal

pub insert-requires : goal.insert-requires
insert-requires g c =
    let q : is_placed c.len.result c.args.places c.in-Some.index ≡ true = sym c.has_place.ensures ∙ c.if-has_place.true in
    omega (arith, placed-within c.len.result c.args.places c.in-Some.index q, c.len.ensures)

pub unwrap-requires : goal.unwrap-requires
unwrap-requires g c =
    let q : is_placed c.len.result c.args.places c.in-Some.index ≡ true = sym c.has_place.ensures ∙ c.if-has_place.true in
    c.insert.ensures.succeeds (omega (arith, placed-below c.len.result c.args.places c.in-Some.index q, c.len.ensures, c.loop-index.invariant.space))

pub loop-index-preserved-then-has_place : goal.loop-index-preserved-then-has_place
loop-index-preserved-then-has_place g c =
    let t = g.T.KeyText.text_of in
    let n = c.args.places in
    let i = c.in-Some.index in
    let vs = c.loop-index.items.items in
    let len : length vs ≡ c.len.result = sym c.loop-index.items.ok.0 ∙ sym c.len.ensures in
    let q : is_placed (length vs) n i ≡ true = ap (λ m. is_placed m n i) len ∙ sym c.has_place.ensures ∙ c.if-has_place.true in
    let put : c.insert.new.self.items ≡ insert vs i c.in-Some.value = rw (c.insert.ensures.items, c.unwrap.ensures) refl in
    record {
      space = omega (arith, c.loop-index.invariant.space, c.insert.ensures.capacity);
      rest = fill_placed t n i c.in-Some.value vs c.insert.new.self.items c.loop-index.left.items c.pop.new.self.items q put c.in-Some.ensures.items ∙ c.loop-index.invariant.rest;
    }

pub loop-index-preserved : goal.loop-index-preserved
loop-index-preserved g c =
    let t = g.T.KeyText.text_of in
    let n = c.args.places in
    let i = c.in-Some.index in
    let vs = c.loop-index.items.items in
    let len : length vs ≡ c.len.result = sym c.loop-index.items.ok.0 ∙ sym c.len.ensures in
    let q : is_placed (length vs) n i ≡ false = ap (λ m. is_placed m n i) len ∙ sym c.has_place.ensures ∙ c.if-has_place.false in
    record {
      space = c.loop-index.invariant.space;
      rest = fill_unplaced t n i c.in-Some.value vs c.loop-index.left.items c.pop.new.self.items q c.in-Some.ensures.items ∙ c.loop-index.invariant.rest;
    }
