use Rattle.std.proofs.Common.{◌≡◌, ◌+◌, ◌-◌, ◌<◌, ◌≤◌, ◌^◌, ℕ, suc, List, ◌∷◌, length, drop, get_or, arith, refl, sym, ap, ◌∙◌, add-one, subst}
use Rattle.std.proofs.Math.Seq.{drop-cons}
use Rattle.std.proofs.lemmas.List.{length-drop}
use Rattle.sj_object.specs.Holes.{AreHoles}
use Rattle.sj_object.specs.inner.Holes.{lowered_by}
use Rattle.sj_object.proofs.Holes.{AreHoles-drop, lowered_by-past, lowered_low}
use Rattle.sj_object.proofs.map.holes.pass.Goals as goal

module _ (qs : List ℕ) (i q o : ℕ) (l : i < length qs) (e : q ≡ get_or qs i 0) where
  cons : drop i qs ≡ q ∷ drop (suc i) qs
  cons = drop-cons qs i 0 l ∙ ap (λ x. x ∷ drop (suc i) qs) (sym e)

  -- a hole that no place up to o is behind
  past : o ≤ q → ((p : ℕ) → p ≤ o → lowered_by (drop i qs) p ≡ lowered_by qs p) → (p : ℕ) → p ≤ o → lowered_by (drop (i + 1) qs) p ≡ lowered_by qs p
  past w h p m = ap (λ j. lowered_by (drop j qs) p) (add-one i) ∙ ap (lowered_by (drop (suc i) qs)) (sym (lowered_low q p (omega (arith, w, m)))) ∙ ap (λ xs. lowered_by xs p) (sym cons) ∙ h p m

  -- one that o is behind, and so behind the others
  behind : q < o → AreHoles 0 qs (2 ^ 64) → lowered_by (drop i qs) o + (length qs - i) ≡ o
  behind w h =
      let a = subst (λ xs. AreHoles 0 xs (2 ^ 64)) cons (AreHoles-drop 0 i qs (2 ^ 64) h) in
      let r = lowered_by-past 0 (q ∷ drop (suc i) qs) (suc q) o (a.0, (omega arith, a.1.1)) (omega (arith, w)) in
      omega (arith, r, ap (λ xs. lowered_by xs o + length xs) cons, length-drop i qs)

pub loop-passed-preserved : goal.loop-passed-preserved
loop-passed-preserved c =
    let qs = c.args.holes.now in
    let i = c.loop-passed.passed in
    let l : i < length qs = omega (arith, c.loop-passed-test.true) in
    record { within = omega (arith, l); same = past qs i (get_or qs i 0) c.args.place l refl c.if-holes-passed.true c.loop-passed.invariant.same }

pub returns-else-holes-passed-clause-place : goal.returns-else-holes-passed-clause-place
returns-else-holes-passed-clause-place c =
    let qs = c.args.holes.now in
    let i = c.loop-passed.passed in
    let l : i < length qs = omega (arith, c.loop-passed-test.true) in
    let w : get_or qs i 0 < c.args.place = omega (arith, c.if-holes-passed.false) in
    let o : c.args.place ≤ c.args.place = omega arith in
    let r = behind qs i (get_or qs i 0) c.args.place l refl w c.requires.holes in
    omega (arith, r, c.loop-passed.invariant.same c.args.place o)
