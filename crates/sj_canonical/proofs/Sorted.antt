-- A list has one order in which it rises and what ties keeps its places.
use Rattle.std.proofs.Common.{◌≡◌, suc, ◌+◌, Bool, true, false, ◌&&◌, not, cond, List, [], ◌∷◌, refl, sym, ap, ◌∙◌, subst, arith, true≢false}
use Rattle.std.proofs.lemmas.Bool.{and_parts, not-true}
use Rattle.std.specs.Cmp.{IsStrictWeakOrder}
use Rattle.std.specs.List.{filter}
use Rattle.std.specs.List.Sorted.{IsSortedBy, IsStableBy, ties}
use Rattle.std.specs.Prelude.{if◌then◌else◌, slice_index_or}

module _ {X : Type 0} (lt : X → X → Bool) where
  -- an element among others, in front of the first that is not less
  abbrev pub inserted : X → List X → List X
  inserted x [] = x ∷ []
  inserted x (y ∷ ys) = if lt y x then y ∷ inserted x ys else x ∷ y ∷ ys

  abbrev pub in_order : List X → List X
  in_order [] = []
  in_order (x ∷ xs) = inserted x (in_order xs)

  -- none is less than x
  abbrev NoneBelow : X → List X → Type 0
  NoneBelow x [] = Unit {0}
  NoneBelow x (y ∷ ys) = (lt y x ≡ false) × NoneBelow x ys

  abbrev Rises : List X → Type 0
  Rises [] = Unit {0}
  Rises (x ∷ xs) = NoneBelow x xs × Rises xs

  module _ (o : IsStrictWeakOrder lt) where
    none_below-less : (x y : X) (ys : List X) → lt y x ≡ false → NoneBelow y ys → NoneBelow x ys
    none_below-less x y [] e h = tt {0}
    none_below-less x y (z ∷ ys) e h = (o.chain z y x h.0 e, none_below-less x y ys e h.1)

    rises-tail : (x : X) (xs : List X) → IsSortedBy lt (x ∷ xs) → IsSortedBy lt xs
    rises-tail x xs h k d l u =
        let e : suc k + 1 ≡ suc (k + 1) = omega arith in
        subst (λ i. lt (slice_index_or (x ∷ xs) i d) (slice_index_or xs k d) ≡ false) e (h (suc k) d (omega (arith, l)) (omega (arith, u)))

    -- what a sort ensures
    pub rises-from_sort : (xs : List X) → IsSortedBy lt xs → Rises xs
    rises-from_sort [] h = tt {0}
    rises-from_sort (x ∷ []) h = (tt {0}, tt {0})
    rises-from_sort (x ∷ y ∷ ys) h =
        let r = rises-from_sort (y ∷ ys) (rises-tail x (y ∷ ys) h) in
        let e = h 0 x (omega arith) (omega arith) in
        ((e, none_below-less x y ys e r.0), r)

    none_below-inserted : (x y : X) (ys : List X) → lt y x ≡ false → NoneBelow x ys → NoneBelow x (inserted y ys)
    none_below-inserted x y [] e h = (e, tt {0})
    none_below-inserted x y (z ∷ ys) e h = by_test (lt z y) (none_below-inserted x y ys e h.1)
      where
        by_test : (b : Bool) → NoneBelow x (inserted y ys) → NoneBelow x (if b then z ∷ inserted y ys else y ∷ z ∷ ys)
        by_test true r = (h.0, r)
        by_test false r = (e, h)

    inserted-rises : (x : X) (ys : List X) → Rises ys → Rises (inserted x ys)
    inserted-rises x [] r = (tt {0}, tt {0})
    inserted-rises x (y ∷ ys) r = by_test (lt y x) refl (inserted-rises x ys r.1)
      where
        by_test : (b : Bool) → lt y x ≡ b → Rises (inserted x ys) → Rises (if b then y ∷ inserted x ys else x ∷ y ∷ ys)
        by_test true e s = (none_below-inserted y x ys (o.one_way y x e) r.0, s)
        by_test false e s = ((e, none_below-less x y ys e r.0), r)

    pub in_order-rises : (xs : List X) → Rises (in_order xs)
    in_order-rises [] = tt {0}
    in_order-rises (x ∷ xs) = inserted-rises x (in_order xs) (in_order-rises xs)

    ties_parts : (z x : X) → ties lt z x ≡ true → (lt z x ≡ false) × (lt x z ≡ false)
    ties_parts z x e = let p = and_parts (not (lt z x)) (not (lt x z)) e in (not-true (lt z x) p.0, not-true (lt x z) p.1)

    -- neither ties with z where one is less than the other
    not_both : (z x y : X) → lt y x ≡ true → ties lt z x ≡ true → ties lt z y ≡ true → ⊥
    not_both z x y e f g =
        let p = ties_parts z x f in
        let q = ties_parts z y g in
        true≢false (sym e ∙ o.chain y z x q.1 p.0)

    swapped : (z x y : X) (ws : List X) → lt y x ≡ true → filter (ties lt z) (y ∷ x ∷ ws) ≡ filter (ties lt z) (x ∷ y ∷ ws)
    swapped z x y ws e = by_tests (ties lt z x) (ties lt z y) refl refl
      where
        by_tests : (p q : Bool) → ties lt z x ≡ p → ties lt z y ≡ q → cond q (y ∷ cond p (x ∷ filter (ties lt z) ws) (filter (ties lt z) ws)) (cond p (x ∷ filter (ties lt z) ws) (filter (ties lt z) ws))
            ≡ cond p (x ∷ cond q (y ∷ filter (ties lt z) ws) (filter (ties lt z) ws)) (cond q (y ∷ filter (ties lt z) ws) (filter (ties lt z) ws))
        by_tests true true f g = absurd (not_both z x y e f g)
        by_tests true false f g = refl
        by_tests false q f g = refl

    inserted-stable : (z x : X) (ys : List X) → filter (ties lt z) (inserted x ys) ≡ filter (ties lt z) (x ∷ ys)
    inserted-stable z x [] = refl
    inserted-stable z x (y ∷ ys) = by_test (lt y x) refl (inserted-stable z x ys)
      where
        by_test : (b : Bool) → lt y x ≡ b → filter (ties lt z) (inserted x ys) ≡ filter (ties lt z) (x ∷ ys) → filter (ties lt z) (if b then y ∷ inserted x ys else x ∷ y ∷ ys) ≡ filter (ties lt z) (x ∷ y ∷ ys)
        by_test true e s = ap (λ l. cond (ties lt z y) (y ∷ l) l) s ∙ swapped z x y ys e
        by_test false e s = refl

    pub in_order-stable : (xs : List X) → IsStableBy lt xs (in_order xs)
    in_order-stable [] z = refl
    in_order-stable (x ∷ xs) z = inserted-stable z x (in_order xs) ∙ ap (λ l. cond (ties lt z x) (x ∷ l) l) (in_order-stable xs z)

    not_less_itself : (x : X) → lt x x ≡ false
    not_less_itself x = by_test (lt x x) refl
      where
        by_test : (b : Bool) → lt x x ≡ b → lt x x ≡ false
        by_test true e = o.one_way x x e
        by_test false e = e

    ties_itself : (x : X) → ties lt x x ≡ true
    ties_itself x = λ i. not (not_less_itself x i) && not (not_less_itself x i)

    ties_neither : (x y : X) → lt x y ≡ false → lt y x ≡ false → ties lt x y ≡ true
    ties_neither x y e f = λ i. not (e i) && not (f i)

    unties_less : (x y : X) → lt x y ≡ true → ties lt x y ≡ false
    unties_less x y e = λ i. not (e i) && not (lt y x)

    less_far : (x y w : X) → lt x y ≡ true → lt w y ≡ false → lt x w ≡ true
    less_far x y w e f = by_test (lt x w) refl
      where
        by_test : (b : Bool) → lt x w ≡ b → lt x w ≡ true
        by_test true g = g
        by_test false g = absurd (true≢false (sym e ∙ o.chain x w y g f))

    skipped : (x y : X) (ys : List X) → lt x y ≡ true → filter (ties lt x) ys ≡ [] → filter (ties lt x) (y ∷ ys) ≡ []
    skipped x y ys e f = ap (λ b. cond b (y ∷ filter (ties lt x) ys) (filter (ties lt x) ys)) (unties_less x y e) ∙ f

    none_ties_far : (x y : X) (ys : List X) → lt x y ≡ true → NoneBelow y ys → filter (ties lt x) ys ≡ []
    none_ties_far x y [] e h = refl
    none_ties_far x y (z ∷ ys) e h = skipped x z ys (less_far x y z e h.0) (none_ties_far x y ys e h.1)

    -- what begins with a greater one has none that ties
    none_ties : (x y : X) (ys : List X) → lt x y ≡ true → NoneBelow y ys → filter (ties lt x) (y ∷ ys) ≡ []
    none_ties x y ys e h = skipped x y ys e (none_ties_far x y ys e h)

    kept_first : (x : X) (xs : List X) → filter (ties lt x) (x ∷ xs) ≡ x ∷ filter (ties lt x) xs
    kept_first x xs = ap (λ b. cond b (x ∷ filter (ties lt x) xs) (filter (ties lt x) xs)) (ties_itself x)

    cons-nil : (x : X) (xs : List X) → x ∷ xs ≡ [] → ⊥
    cons-nil x xs e = cc

    same_head : (x y : X) (xs ys : List X) → x ∷ xs ≡ y ∷ ys → x ≡ y
    same_head x y xs ys e = cc

    same_tail : (x y : X) (xs ys : List X) → x ∷ xs ≡ y ∷ ys → xs ≡ ys
    same_tail x y xs ys e = cc

    less_first : (P : Type 0) (x y : X) (xs ys : List X) → lt x y ≡ true → NoneBelow y ys → filter (ties lt x) (y ∷ ys) ≡ filter (ties lt x) (x ∷ xs) → P
    less_first P x y xs ys e h f = absurd (cons-nil x (filter (ties lt x) xs) (sym (kept_first x xs) ∙ sym f ∙ none_ties x y ys e h))

    heads_tie : (x y : X) (xs ys : List X) → lt x y ≡ false → lt y x ≡ false → filter (ties lt x) (y ∷ ys) ≡ filter (ties lt x) (x ∷ xs) → y ≡ x
    heads_tie x y xs ys e f h =
        same_head y x (filter (ties lt x) ys) (filter (ties lt x) xs)
        (sym (ap (λ b. cond b (y ∷ filter (ties lt x) ys) (filter (ties lt x) ys)) (ties_neither x y e f)) ∙ h ∙ kept_first x xs)

    tails_tie : (x : X) (xs ys : List X) (z : X) → filter (ties lt z) (x ∷ ys) ≡ filter (ties lt z) (x ∷ xs) → filter (ties lt z) ys ≡ filter (ties lt z) xs
    tails_tie x xs ys z = by_test (ties lt z x)
      where
        by_test : (b : Bool) → cond b (x ∷ filter (ties lt z) ys) (filter (ties lt z) ys) ≡ cond b (x ∷ filter (ties lt z) xs) (filter (ties lt z) xs) → filter (ties lt z) ys ≡ filter (ties lt z) xs
        by_test true e = same_tail x x (filter (ties lt z) ys) (filter (ties lt z) xs) e
        by_test false e = e

    one_order : (xs ys : List X) → Rises xs → Rises ys → IsStableBy lt xs ys → ys ≡ xs
    one_order [] [] r s h = refl
    one_order [] (y ∷ ys) r s h = absurd (cons-nil y (filter (ties lt y) ys) (sym (kept_first y ys) ∙ h y))
    one_order (x ∷ xs) [] r s h = absurd (cons-nil x (filter (ties lt x) xs) (sym (kept_first x xs) ∙ sym (h x)))
    one_order (x ∷ xs) (y ∷ ys) r s h = by_tests (lt x y) (lt y x) refl refl (one_order xs ys r.1 s.1)
      where
        by_tests : (p q : Bool) → lt x y ≡ p → lt y x ≡ q → (IsStableBy lt xs ys → ys ≡ xs) → y ∷ ys ≡ x ∷ xs
        by_tests true q e f g = less_first (y ∷ ys ≡ x ∷ xs) x y xs ys e s.0 (h x)
        by_tests false true e f g = less_first (y ∷ ys ≡ x ∷ xs) y x ys xs f r.0 (sym (h y))
        by_tests false false e f g =
            let first : y ≡ x = heads_tie x y xs ys e f (h x) in
            (λ i. first i ∷ g (λ z. tails_tie x xs ys z (ap (λ w. filter (ties lt z) (w ∷ ys)) (sym first) ∙ h z)) i)

    stable_step : (xs ys : List X) → IsStableBy lt xs ys → IsStableBy lt (in_order xs) ys
    stable_step xs ys h z = h z ∙ sym (in_order-stable xs z)

    -- a stable sort gives that order
    pub sorts : (xs ys : List X) → IsSortedBy lt ys → IsStableBy lt xs ys → ys ≡ in_order xs
    sorts xs ys up h = one_order (in_order xs) ys (in_order-rises xs) (rises-from_sort ys up) (stable_step xs ys h)
