use Rattle.std.proofs.Common.{◌≡◌, ℕ, zero, suc, ◌+◌, ◌-◌, ◌<◌, ◌≤◌, ◌%◌, ◌^◌, List, length, get_or, refl, sym, ap, ◌∙◌, arith, add-one, subst}
use Rattle.std.proofs.lemmas.Nat.{pow_pos}
use Rattle.sj_object.specs.Chains.{last_below}
use Rattle.sj_object.specs.Holes.{raised_by, without, AreHoles, IsChained}
use Rattle.sj_object.specs.inner.Holes.{lowered_by}
use Rattle.sj_object.proofs.Chains.{IsAbove, last_le, above_start, above_next}
use Rattle.sj_object.proofs.Holes.{lowered_raised_by, raised_by_less, raised_by_ge, raised_by-within, length-without, get_or-without}
use Rattle.sj_object.proofs.Chained.{IsChained-head, IsChained-link}
use Rattle.sj_object.proofs.map.chain.pass_over.Goals as goal

-- a place of a member that is there is one in the table
module _ (qs hs : List ℕ) (a : AreHoles 0 qs (length hs)) where
  place_within : (i p : ℕ) → i < length (without qs hs) → p ≡ raised_by qs (i + 1) → (0 < p) × (p ≤ length hs)
  place_within i p l e =
      let n = length-without 0 qs hs (length hs) refl a in
      (omega (arith, e, raised_by_ge qs (i + 1)), omega (arith, e, raised_by-within 0 qs (length hs) (length (without qs hs)) (i + 1) a n (omega (arith, l))))

  -- the next place of a walk
  module _ (n : ℕ) (links heads : List ℕ) (k : IsChained n qs hs links heads) (q : ℕ) (w : q < length (without qs hs)) where
    abbrev cs : List ℕ
    cs = without qs hs

    abbrev Stands : ℕ → Type 0
    Stands p = (0 < p) × ((p ≤ length hs) × ((p ≡ raised_by qs (lowered_by qs p)) × IsAbove n cs q (lowered_by qs p)))

    stands : (p m : ℕ) → p ≡ raised_by qs m → IsAbove n cs q m → Stands p
    stands p m e h =
        let low : lowered_by qs p ≡ m = ap (lowered_by qs) e ∙ lowered_raised_by qs m in
        let v = length-without 0 qs hs (length hs) refl a in (
          omega (arith, e, raised_by_ge qs m, h.above),
          (
            omega (arith, e, raised_by-within 0 qs (length hs) (length cs) m a v h.within),
            (e ∙ ap (raised_by qs) (sym low), subst (IsAbove n cs q) (sym low) h),
          ),
        )

    first : (b p s : ℕ) → b ≡ get_or cs q 0 % n → b < n → p ≡ get_or heads b 0 → s ≡ raised_by qs (q + 1) → (p ≡ s → ⊥) → Stands p
    first b p s e l h z ne =
        let m = last_below n b cs (length cs) in
        let d : p ≡ raised_by qs m = h ∙ k.starts b l in
        stands p m d (above_start n cs q w m (ap (λ x. last_below n x cs (length cs)) e) (λ y. ne (d ∙ ap (raised_by qs) y ∙ sym z)))

    -- where the walk stands, the member and its link
    at : (p : ℕ) → Stands p → (j : ℕ) × ((lowered_by qs p ≡ suc j) × ((j < length cs) × ((suc (p - 1) ≡ raised_by qs (suc j)) × (get_or links (p - 1) 0 ≡ raised_by qs (last_below n (get_or cs j 0 % n) cs j)))))
    at p h = by_place (lowered_by qs p) refl where
      by_place : (m : ℕ) → lowered_by qs p ≡ m → (j : ℕ) × ((lowered_by qs p ≡ suc j) × ((j < length cs) × ((suc (p - 1) ≡ raised_by qs (suc j)) × (get_or links (p - 1) 0 ≡ raised_by qs (last_below n (get_or cs j 0 % n) cs j)))))
      by_place zero e = absurd (omega (arith, e, h.1.1.1.above))
      by_place (suc j) e =
          let l : j < length cs = omega (arith, e, h.1.1.1.within) in
          let z : suc (p - 1) ≡ raised_by qs (suc j) = omega (arith, h.0, h.1.1.0, ap (raised_by qs) e) in
          (j, (e, (l, (z, k.nexts j (p - 1) l z))))

    next : (p x s : ℕ) → Stands p → x ≡ get_or links (p - 1) 0 → s ≡ raised_by qs (q + 1) → (x ≡ s → ⊥) → Stands x
    next p x s h e z ne =
        let f = at p h in
        let j = f.0 in
        let m = last_below n (get_or cs j 0 % n) cs j in
        let d : x ≡ raised_by qs m = e ∙ f.1.1.1.1 in
        stands x m d (above_next n cs q w (lowered_by qs p) j m f.1.0 h.1.1.1 refl (λ y. ne (d ∙ ap (raised_by qs) y ∙ sym z)))

    smaller : (p : ℕ) → Stands p → get_or links (p - 1) 0 < p
    smaller p h =
        let f = at p h in
        let j = f.0 in
        omega (arith, h.0, f.1.1.1.0, f.1.1.1.1, raised_by_less qs (last_below n (get_or cs j 0 % n) cs j) (suc j) (omega (arith, last_le n (get_or cs j 0 % n) cs j)))

pub overflow_add-position : goal.overflow_add-position
overflow_add-position c = omega (arith, c.requires.within, length-without 0 c.args.holes.now c.args.hashes.now (length c.args.hashes.now) refl c.requires.holes)

pub raise-place-requires : goal.raise-place-requires
raise-place-requires c = omega (arith, c.requires.within, length-without 0 c.args.holes.now c.args.hashes.now (length c.args.hashes.now) refl c.requires.holes)

pub overflow_sub-next : goal.overflow_sub-next
overflow_sub-next c = (place_within c.args.holes.now c.args.hashes.now c.requires.holes c.args.position c.raise-place.result c.requires.within c.raise-place.ensures).0

pub offset_bounds-links-place : goal.offset_bounds-links-place
offset_bounds-links-place c = omega (arith, place_within c.args.holes.now c.args.hashes.now c.requires.holes c.args.position c.raise-place.result c.requires.within c.raise-place.ensures, c.requires.chained.size)

pub bounds-links-place : goal.bounds-links-place
bounds-links-place c = omega (arith, place_within c.args.holes.now c.args.hashes.now c.requires.holes c.args.position c.raise-place.result c.requires.within c.raise-place.ensures, c.requires.chained.size)

pub overflow_sub-result : goal.overflow_sub-result
overflow_sub-result c = (place_within c.args.holes.now c.args.hashes.now c.requires.holes c.args.position c.raise-place.result c.requires.within c.raise-place.ensures).0

pub overflow_sub-result-2 : goal.overflow_sub-result-2
overflow_sub-result-2 c = (place_within c.args.holes.now c.args.hashes.now c.requires.holes c.args.position c.raise-place.result c.requires.within c.raise-place.ensures).0

pub returns-then-above-place-clause-hole : goal.returns-then-above-place-clause-hole
returns-then-above-place-clause-hole c = omega (arith, c.raise-place.ensures, place_within c.args.holes.now c.args.hashes.now c.requires.holes c.args.position c.raise-place.result c.requires.within c.raise-place.ensures)

pub returns-clause-hole : goal.returns-clause-hole
returns-clause-hole c = omega (arith, c.raise-place.ensures, place_within c.args.holes.now c.args.hashes.now c.requires.holes c.args.position c.raise-place.result c.requires.within c.raise-place.ensures)

pub overflow_sub-place : goal.overflow_sub-place
overflow_sub-place c = (place_within c.args.holes.now c.args.hashes.now c.requires.holes c.args.position c.raise-place.result c.requires.within c.raise-place.ensures).0

pub offset_bounds-hashes-place : goal.offset_bounds-hashes-place
offset_bounds-hashes-place c = omega (arith, place_within c.args.holes.now c.args.hashes.now c.requires.holes c.args.position c.raise-place.result c.requires.within c.raise-place.ensures)

pub bounds-hashes-place : goal.bounds-hashes-place
bounds-hashes-place c = omega (arith, place_within c.args.holes.now c.args.hashes.now c.requires.holes c.args.position c.raise-place.result c.requires.within c.raise-place.ensures)

-- the bucket of the member is that of its hash among the members that are there
own : (n : ℕ) (qs hs : List ℕ) (q p b : ℕ) → AreHoles 0 qs (length hs) → q < length (without qs hs) → p ≡ raised_by qs (q + 1) → b ≡ get_or hs (p - 1) 0 % n → b ≡ get_or (without qs hs) q 0 % n
own n qs hs q p b a w e h =
    let z : suc (p - 1) ≡ raised_by qs (suc q) = omega (arith, e, ap (raised_by qs) (add-one q), (place_within qs hs a q p w e).0) in
    h ∙ ap (λ x. x % n) (sym (get_or-without 0 qs hs (length hs) 0 q (p - 1) refl a z))

pub returns-then-above-place-clause-chained : goal.returns-then-above-place-clause-chained
returns-then-above-place-clause-chained c =
    let qs = c.args.holes.now in
    let hs = c.args.hashes.now in
    let q = c.args.position in
    let p = c.raise-place.result in
    let n = 2 ^ c.args.bits in
    let w = place_within qs hs c.requires.holes q p c.requires.within c.raise-place.ensures in
    let z : suc (p - 1) ≡ raised_by qs (suc q) = omega (arith, c.raise-place.ensures, ap (raised_by qs) (add-one q), w.0) in
    let l : c.bucket_of-bucket.result < n = omega (arith, c.bucket_of-bucket.ensures, pow_pos c.args.bits) in
    IsChained-head n 0 qs hs c.args.links.now c.args.heads.now q (p - 1) c.requires.holes c.requires.within z c.requires.chained c.bucket_of-bucket.result l (c.if-above-place.true ∙ omega (arith, w.0))

pub loop-above-init : goal.loop-above-init
loop-above-init c =
    let qs = c.args.holes.now in
    let hs = c.args.hashes.now in
    let q = c.args.position in
    let p = c.raise-place.result in
    let n = 2 ^ c.args.bits in
    let l : c.bucket_of-bucket.result < n = omega (arith, c.bucket_of-bucket.ensures, pow_pos c.args.bits) in
    let h = first qs hs c.requires.holes n c.args.links.now c.args.heads.now c.requires.chained q c.requires.within c.bucket_of-bucket.result (get_or c.args.heads.now c.bucket_of-bucket.result 0) p (own n qs hs q p c.bucket_of-bucket.result c.requires.holes c.requires.within c.raise-place.ensures c.bucket_of-bucket.ensures) l refl c.raise-place.ensures c.if-above-place.false in
    record { some = h.0; within = h.1.0; there = h.1.1.0; stands = h.1.1.1 }

pub loop-above-smaller : goal.loop-above-smaller
loop-above-smaller c =
    let v = c.loop-above.invariant in
    smaller c.args.holes.now c.args.hashes.now c.requires.holes (2 ^ c.args.bits) c.args.links.now c.args.heads.now c.requires.chained c.args.position c.requires.within c.loop-above.above (v.some, (v.within, (v.there, v.stands)))

pub loop-above-preserved : goal.loop-above-preserved
loop-above-preserved c =
    let v = c.loop-above.invariant in
    let h = next c.args.holes.now c.args.hashes.now c.requires.holes (2 ^ c.args.bits) c.args.links.now c.args.heads.now c.requires.chained c.args.position c.requires.within c.loop-above.above (get_or c.args.links.now (c.loop-above.above - 1) 0) c.raise-place.result (v.some, (v.within, (v.there, v.stands))) refl c.raise-place.ensures c.loop-above-test.true in
    record { some = h.0; within = h.1.0; there = h.1.1.0; stands = h.1.1.1 }

pub returns-clause-chained : goal.returns-clause-chained
returns-clause-chained c =
    let qs = c.args.holes.now in
    let hs = c.args.hashes.now in
    let q = c.args.position in
    let p = c.raise-place.result in
    let n = 2 ^ c.args.bits in
    let v = c.loop-above.invariant in
    let w = place_within qs hs c.requires.holes q p c.requires.within c.raise-place.ensures in
    let z : suc (p - 1) ≡ raised_by qs (suc q) = omega (arith, c.raise-place.ensures, ap (raised_by qs) (add-one q), w.0) in
    let f = at qs hs c.requires.holes n c.args.links.now c.args.heads.now c.requires.chained q c.requires.within c.loop-above.above (v.some, (v.within, (v.there, v.stands))) in
    IsChained-link n 0 qs hs c.args.links.now c.args.heads.now q (p - 1) c.requires.holes c.requires.within z c.requires.chained f.0 (c.loop-above.above - 1) f.1.1.0 f.1.1.1.0 (c.loop-above-test.false ∙ omega (arith, w.0))
