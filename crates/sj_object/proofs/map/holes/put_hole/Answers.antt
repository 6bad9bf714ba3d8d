use Rattle.std.proofs.Common.{◌≡◌, ◌+◌, ◌<◌, ◌≤◌, ℕ, suc, nat_le, Bool, true, false, List, [], ◌∷◌, ◌++◌, length, take, drop, get_or, arith, refl, sym, ap, ◌∙◌, add-one, append_assoc}
use Rattle.std.specs.List.{insert}
use Rattle.std.specs.Result.{is_ok}
use Rattle.std.specs.Bool.{if◌then◌else◌}
use Rattle.std.proofs.Math.Seq.{drop-cons, take-suc}
use Rattle.std.proofs.lemmas.Bool.Decides.{nat_tests}
use Rattle.std.proofs.lemmas.List.{get_or_default, drop_all}
use Rattle.sj_object.specs.inner.Holes.{with_hole}
use Rattle.sj_object.proofs.map.holes.put_hole.Goals as goal
use Rattle.sj_object.proofs.map.holes.put_hole.Goals.{then-loop-i-test+else-hole-index, else-loop-i-test}

-- one step, past a hole that stands behind, or where it stands before the next
module _ (s : ℕ) (qs : List ℕ) (i q : ℕ) (l : i < length qs) (e : q ≡ get_or qs i 0) where
  cons : drop i qs ≡ q ∷ drop (suc i) qs
  cons = drop-cons qs i 0 l ∙ ap (λ x. x ∷ drop (suc i) qs) (sym e)

  past : s ≤ q → with_hole s qs ≡ take i qs ++ with_hole s (drop i qs) → with_hole s qs ≡ take (i + 1) qs ++ with_hole s (drop (i + 1) qs)
  past w h = h ∙ ap (λ xs. take i qs ++ with_hole s xs) cons ∙ ap (λ xs. take i qs ++ xs) (by_test (nat_le s q) refl)
      ∙ sym (append_assoc (take i qs) (q ∷ []) (with_hole s (drop (suc i) qs)))
      ∙ ap (λ xs. xs ++ with_hole s (drop (suc i) qs)) (ap (λ x. take i qs ++ x ∷ []) e ∙ sym (take-suc qs i 0 l))
      ∙ ap (λ m. take m qs ++ with_hole s (drop m qs)) (sym (add-one i)) where
        by_test : (c : Bool) → nat_le s q ≡ c → (if c then q ∷ with_hole s (drop (suc i) qs) else s ∷ q ∷ drop (suc i) qs) ≡ q ∷ with_hole s (drop (suc i) qs)
        by_test true t = refl
        by_test false t = absurd (grind (arith, nat_tests, w))

  before : (s ≤ q → ⊥) → with_hole s (drop i qs) ≡ s ∷ drop i qs
  before w = ap (with_hole s) cons ∙ by_test (nat_le s q) refl ∙ ap (λ xs. s ∷ xs) (sym cons) where
    by_test : (c : Bool) → nat_le s q ≡ c → (if c then q ∷ with_hole s (drop (suc i) qs) else s ∷ q ∷ drop (suc i) qs) ≡ s ∷ q ∷ drop (suc i) qs
    by_test true t = let y : s ≤ q = grind (arith, nat_tests) in absurd (w y)
    by_test false t = refl

pub loop-i-preserved : goal.loop-i-preserved
loop-i-preserved c =
    let qs = c.args.holes.now.items in
    let i = c.loop-i.i in
    let l : i < length qs = omega (arith, c.loop-i-test.true, c.len.ensures, c.args.holes.now.ok.0) in
    let e = c.index.ensures ∙ get_or_default qs i c.index.result.now 0 l in
    record { within = omega (arith, l); same = past c.args.hole qs i c.index.result.now l e c.if-hole-index.true c.loop-i.invariant.same }

pub returns-clause-holes : goal.returns-clause-holes
returns-clause-holes c =
    let s = c.args.hole in
    let qs = c.args.holes.now.items in
    let i = c.loop-i.i in
    let stands : with_hole s (drop i qs) ≡ s ∷ drop i qs = elim c.loop-i-test.branch [
      | then-loop-i-test+else-hole-index w ↦
          let l : i < length qs = omega (arith, w.loop-i-test.true, c.len.ensures, c.args.holes.now.ok.0) in
          before s qs i w.index.result.now l (w.index.ensures ∙ get_or_default qs i w.index.result.now 0 l) (λ y. omega (arith, w.if-hole-index.false, y))
      | else-loop-i-test w ↦
          let o = drop_all i qs (omega (arith, w.loop-i-test.false, c.len.ensures, c.args.holes.now.ok.0)) in
          ap (with_hole s) o ∙ ap (λ xs. s ∷ xs) (sym o)
    ] in
    let ok : is_ok c.insert.result ≡ true = c.insert.ensures.succeeds (omega (arith, c.requires, c.args.holes.now.ok.0)) in
    let inserted : c.insert.new.self.items ≡ insert qs i s = c.insert.ensures.items ∙ (λ j. if ok j then insert qs i s else qs) in
    inserted ∙ ap (λ xs. take i qs ++ xs) (sym stands) ∙ sym c.loop-i.invariant.same
