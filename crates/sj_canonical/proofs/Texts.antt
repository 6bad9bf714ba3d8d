-- Texts in the order of their units: two that tie are one.
use Rattle.std.proofs.Common.{◌≡◌, ℕ, Bool, true, false, nat_lt, List, [], ◌∷◌, ◌++◌, Ordering, Less, Equal, Greater, flat_map, IsUtf8, refl, sym, ap, ◌∙◌, arith, true≢false}
use Rattle.std.proofs.lemmas.Bool.{and_parts, ltb-true, ltb-false}
use Rattle.std.proofs.lemmas.Cmp.{nat_list_cmp_total, tied_itself}
use Rattle.std.proofs.lemmas.List.MinMax.{ranks_by}
use Rattle.std.proofs.lemmas.Str.{encodes-chars, scalars-chars}
use Rattle.std.proofs.Math.Utf8.{scalar, scalars, scalar_cases, encodes}
use Rattle.std.specs.Char.Escape.{encode_utf16}
use Rattle.std.specs.Cmp.{IsStrictWeakOrder}
use Rattle.std.specs.Cmp.Lexicographic.{slice_cmp}
use Rattle.std.specs.FinMap.{nat_cmp-IsAntisymmetric, slice_cmp-IsAntisymmetric}
use Rattle.std.specs.Ordering.{is_lt, nat_cmp, ordering_reverse}
use Rattle.std.specs.Str.{chars}
use Rattle.sj_canonical.specs.Canonical.{units, is_before}
use Rattle.sj_canonical.specs.inner.Ranks.{rank}
use Rattle.sj_canonical.proofs.Characters.{units_by, begun_by, by_units, classed}

pub order : IsStrictWeakOrder is_before
order = ranks_by nat_list_cmp_total units

pub not_before_itself : (k : List ℕ) → is_before k k ≡ false
not_before_itself k = ap is_lt (tied_itself nat_list_cmp_total (units k))

-- what is before a text is before those behind it
pub before_far : (j k l : List ℕ) → is_before j k ≡ true → is_before k l ≡ true → is_before j l ≡ true
before_far j k l e f = by_test (is_before j l) refl
  where
    by_test : (b : Bool) → is_before j l ≡ b → is_before j l ≡ true
    by_test true g = g
    by_test false g = absurd (true≢false (sym e ∙ order.chain j l k g (order.one_way k l f)))

rank_same : (x y : ℕ) → scalar x ≡ true → scalar y ≡ true → rank x ≡ rank y → x ≡ y
rank_same x y s r e = omega (arith, scalar_cases x s, scalar_cases y r, classed x, classed y, e)

equal_ranks : (x y : ℕ) → nat_cmp (rank x) (rank y) ≡ Equal → rank x ≡ rank y
equal_ranks x y e = nat_cmp-IsAntisymmetric (rank x) (rank y) e

greater_equal : Greater ≡ Equal → ⊥
greater_equal e = cc

tails : (p : Bool) (c : ℕ) (r t : List ℕ) → units_by p c ++ r ≡ units_by p c ++ t → r ≡ t
tails true c r t e = cc
tails false c r t e = cc

tails_of : (c : ℕ) (r t : List ℕ) → encode_utf16 c ++ r ≡ encode_utf16 c ++ t → r ≡ t
tails_of c r t e = tails (nat_lt c 0x1_0000) c r t e

itself : (b : List ℕ) → slice_cmp nat_cmp b b ≡ Equal
itself b = tied_itself nat_list_cmp_total b

heads : (c d : ℕ) (r t : List ℕ) → scalar c ≡ true → scalar d ≡ true → encode_utf16 c ++ r ≡ encode_utf16 d ++ t → (c ≡ d → ⊥) → ⊥
heads c d r t s q e n =
    n (rank_same c d s q (equal_ranks c d (sym (by_units c d s q n r t) ∙ ap (λ l. slice_cmp nat_cmp l (encode_utf16 d ++ t)) e ∙ itself (encode_utf16 d ++ t))))

head_same : (c d : ℕ) → ((c ≡ d → ⊥) → ⊥) → c ≡ d
head_same c d n = by_tests (nat_lt c d) (nat_lt d c) refl refl
  where
    by_tests : (p q : Bool) → nat_lt c d ≡ p → nat_lt d c ≡ q → c ≡ d
    by_tests true q e f = absurd (n (λ h. omega (arith, h, ltb-true c d e)))
    by_tests false true e f = absurd (n (λ h. omega (arith, h, ltb-true d c f)))
    by_tests false false e f = omega (arith, ltb-false c d e, ltb-false d c f)

chars_same : (cs ds : List ℕ) → scalars cs ≡ true → scalars ds ≡ true → flat_map encode_utf16 cs ≡ flat_map encode_utf16 ds → cs ≡ ds
chars_same [] [] s r e = refl
chars_same [] (d ∷ ds) s r e = absurd (greater_equal (sym (begun_by (nat_lt d 0x1_0000) d (flat_map encode_utf16 ds)).0 ∙ ap (λ l. slice_cmp nat_cmp l []) (sym e)))
chars_same (c ∷ cs) [] s r e = absurd (greater_equal (sym (begun_by (nat_lt c 0x1_0000) c (flat_map encode_utf16 cs)).0 ∙ ap (λ l. slice_cmp nat_cmp l []) e))
chars_same (c ∷ cs) (d ∷ ds) s r e =
    let p = and_parts (scalar c) (scalars cs) s in
    let q = and_parts (scalar d) (scalars ds) r in
    let one : c ≡ d = head_same c d (heads c d (flat_map encode_utf16 cs) (flat_map encode_utf16 ds) p.0 q.0 e) in
    λ i. one i ∷ chars_same cs ds p.1 q.1 (tails_of c (flat_map encode_utf16 cs) (flat_map encode_utf16 ds) (e ∙ ap (λ x. encode_utf16 x ++ flat_map encode_utf16 ds) (sym one))) i

-- texts with the same units are one
pub units_same : (k l : List ℕ) → IsUtf8 k → IsUtf8 l → units k ≡ units l → k ≡ l
units_same k l u v e = sym (encodes-chars k u) ∙ ap encodes (chars_same (chars k) (chars l) (scalars-chars k u) (scalars-chars l v) e) ∙ encodes-chars l v

-- so are texts that tie
pub tied : (k l : List ℕ) → IsUtf8 k → IsUtf8 l → is_before k l ≡ false → is_before l k ≡ false → k ≡ l
tied k l u v e f = units_same k l u v (slice_cmp-IsAntisymmetric nat_cmp-IsAntisymmetric (units k) (units l) (equal_by (slice_cmp nat_cmp (units k) (units l)) (slice_cmp nat_cmp (units l) (units k)) e f (nat_list_cmp_total.antisymm (units l) (units k))))
  where
    equal_by : (o p : Ordering) → is_lt o ≡ false → is_lt p ≡ false → p ≡ ordering_reverse o → o ≡ Equal
    equal_by Less p e f g = absurd (true≢false e)
    equal_by Equal p e f g = refl
    equal_by Greater p e f g = absurd (true≢false (sym (ap is_lt g) ∙ f))
