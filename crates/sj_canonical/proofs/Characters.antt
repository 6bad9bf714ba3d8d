-- Characters by their units.
use Rattle.std.proofs.Common.{◌≡◌, ◌≢◌, ℕ, ◌+◌, ◌-◌, ◌/◌, ◌%◌, ◌<◌, ◌≤◌, ◌⊎◌, cond, nat_lt, Bool, true, false, List, [], ◌∷◌, ◌++◌, Ordering, Less, Equal, Greater, flat_map, length, IsUtf8, refl, sym, inl, inr, ap, ap₂, ◌∙◌, arith}
use Rattle.std.proofs.lemmas.Str.{chars-nil, chars_from_encodes, cons_from_encodes, IsUtf8-past_char}
use Rattle.std.specs.Char.Escape.{encode_utf16}
use Rattle.std.specs.Cmp.Lexicographic.{slice_cmp}
use Rattle.std.specs.Ordering.{nat_cmp, ordering_then}
use Rattle.std.specs.Char.{encode_utf8}
use Rattle.std.proofs.Math.Utf8.{scalar, scalar_cases}
use Rattle.std.proofs.lemmas.Bool.{ltb-true, ltb-false}
use Rattle.sj_canonical.specs.Canonical.{units}
use Rattle.sj_canonical.specs.inner.Ranks.{rank}

by_cmp : (p q : Bool) (a b c d : ℕ) → nat_lt a b ≡ p → nat_lt c d ≡ q → (a ≡ b → c ≡ d) → (a < b → c < d) → (b < a → d < c) → nat_cmp a b ≡ nat_cmp c d
by_cmp p q a b c d e f g h i = grind (arith, e, f, g, h, i)

-- numbers that stand alike compare alike
pub alike : (a b c d : ℕ) → (a ≡ b → c ≡ d) → (a < b → c < d) → (b < a → d < c) → nat_cmp a b ≡ nat_cmp c d
alike a b c d = by_cmp (nat_lt a b) (nat_lt c d) a b c d refl refl

less : (a b : ℕ) → a < b → nat_cmp a b ≡ Less
less a b h = grind (arith, h)

more : (a b : ℕ) → b < a → nat_cmp a b ≡ Greater
more a b h = grind (arith, h)

same : (a : ℕ) → nat_cmp a a ≡ Equal
same a = grind arith

-- where the first units differ, they decide
first_decides : (a b p q : ℕ) (r : Ordering) → a ≢ b → (a < b → p < q) → (b < a → q < p) → ordering_then (nat_cmp a b) r ≡ nat_cmp p q
first_decides a b p q r n f g = by_sides (nat_lt a b) (nat_lt b a) refl refl
  where
    by_sides : (u v : Bool) → nat_lt a b ≡ u → nat_lt b a ≡ v → ordering_then (nat_cmp a b) r ≡ nat_cmp p q
    by_sides true v e h = ap (λ o. ordering_then o r) (less a b (ltb-true a b e)) ∙ sym (less p q (f (ltb-true a b e)))
    by_sides false true e h = ap (λ o. ordering_then o r) (more a b (ltb-true b a h)) ∙ sym (more p q (g (ltb-true b a h)))
    by_sides false false e h = absurd (n (omega (arith, ltb-false a b e, ltb-false b a h)))

-- and where they are one, the next do
next_decides : (a b : ℕ) (r s : Ordering) → a ≡ b → r ≡ s → ordering_then (nat_cmp a b) r ≡ s
next_decides a b r s e f = ap (λ o. ordering_then o r) (ap (λ b. nat_cmp a b) (sym e) ∙ same a) ∙ f

-- of two units each, one after the other
two_decide : (a b c d p q : ℕ) (r : Ordering) → (a < b → p < q) → (b < a → q < p) → (a ≡ b → (c ≢ d) × (c < d → p < q) × (d < c → q < p)) → ordering_then (nat_cmp a b) (ordering_then (nat_cmp c d) r) ≡ nat_cmp p q
two_decide a b c d p q r f g h = by_sides (nat_lt a b) (nat_lt b a) refl refl
  where
    by_sides : (u v : Bool) → nat_lt a b ≡ u → nat_lt b a ≡ v → ordering_then (nat_cmp a b) (ordering_then (nat_cmp c d) r) ≡ nat_cmp p q
    by_sides true v e k = ap (λ o. ordering_then o (ordering_then (nat_cmp c d) r)) (less a b (ltb-true a b e)) ∙ sym (less p q (f (ltb-true a b e)))
    by_sides false true e k = ap (λ o. ordering_then o (ordering_then (nat_cmp c d) r)) (more a b (ltb-true b a k)) ∙ sym (more p q (g (ltb-true b a k)))
    by_sides false false e k =
        let one : a ≡ b = omega (arith, ltb-false a b e, ltb-false b a k) in
        let s = h one in
        next_decides a b _ _ one (first_decides c d p q r s.0 s.1 s.2)

rank-low : (x : ℕ) → x < 0xE000 → rank x ≡ x
rank-low x h = grind (arith, h)

rank-last : (x : ℕ) → 0xE000 ≤ x → x < 0x1_0000 → rank x ≡ x + 0x11_0000
rank-last x h l = grind (arith, h, l)

rank-two : (x : ℕ) → 0x1_0000 ≤ x → rank x ≡ x
rank-two x h = grind (arith, h)

-- a character's rank, by the number of its units
pub classed : (x : ℕ) → ((x < 0xE000) × (rank x ≡ x)) ⊎ ((0xE000 ≤ x) × (x < 0x1_0000) × (rank x ≡ x + 0x11_0000)) ⊎ ((0x1_0000 ≤ x) × (rank x ≡ x))
classed x = by_tests (nat_lt x 0xE000) (nat_lt x 0x1_0000) refl refl
  where
    by_tests : (p q : Bool) → nat_lt x 0xE000 ≡ p → nat_lt x 0x1_0000 ≡ q → ((x < 0xE000) × (rank x ≡ x)) ⊎ ((0xE000 ≤ x) × (x < 0x1_0000) × (rank x ≡ x + 0x11_0000)) ⊎ ((0x1_0000 ≤ x) × (rank x ≡ x))
    by_tests true q e f = inl (ltb-true x 0xE000 e, rank-low x (ltb-true x 0xE000 e))
    by_tests false true e f = inr (inl (ltb-false x 0xE000 e, ltb-true x 0x1_0000 f, rank-last x (ltb-false x 0xE000 e) (ltb-true x 0x1_0000 f)))
    by_tests false false e f = inr (inr (ltb-false x 0x1_0000 f, rank-two x (ltb-false x 0x1_0000 f)))

-- the first unit of two
high_bounds : (y : ℕ) → scalar y ≡ true → (0xD800 ≤ 0xD800 + (y - 0x1_0000) / 0x400) × (0xD800 + (y - 0x1_0000) / 0x400 < 0xDC00)
high_bounds y s = elim (scalar_cases y s) as (λ _. (0xD800 ≤ 0xD800 + (y - 0x1_0000) / 0x400) × (0xD800 + (y - 0x1_0000) / 0x400 < 0xDC00)) [
  | inl a ↦ (omega (arith, a), omega (arith, a))
  | inr a ↦ (omega (arith, a.1), omega (arith, a.1))
]

abbrev pub units_by : Bool → ℕ → List ℕ
units_by p x = cond p (x ∷ []) ((0xD800 + (x - 0x1_0000) / 0x400) ∷ (0xDC00 + (x - 0x1_0000) % 0x400) ∷ [])

module _ (x y : ℕ) (sx : scalar x ≡ true) (sy : scalar y ≡ true) (n : x ≢ y) (b c : List ℕ) where
  rises : (x y : ℕ) → x < y → y < 0x1_0000 → rank x < rank y
  rises x y h l = by_sides (nat_lt x 0xE000) (nat_lt y 0xE000) refl refl
    where
      by_sides : (p q : Bool) → nat_lt x 0xE000 ≡ p → nat_lt y 0xE000 ≡ q → rank x < rank y
      by_sides true true e f = omega (arith, h, rank-low x (ltb-true x 0xE000 e), rank-low y (ltb-true y 0xE000 f))
      by_sides true false e f = omega (arith, h, rank-low x (ltb-true x 0xE000 e), rank-last y (ltb-false y 0xE000 f) l)
      by_sides false q e f = omega (arith, h, ltb-false x 0xE000 e, rank-last x (ltb-false x 0xE000 e) (omega (arith, h, l)), rank-last y (omega (arith, h, ltb-false x 0xE000 e)) l)

  -- a character of one unit and one of two
  below : (x y : ℕ) → 0x1_0000 ≤ y → x < 0xE000 → rank x < rank y
  below x y l h = omega (arith, l, h, rank-low x h, rank-two y l)

  above : (x y : ℕ) → scalar y ≡ true → 0x1_0000 ≤ y → 0xE000 ≤ x → x < 0x1_0000 → rank y < rank x
  above x y s l h m = elim (scalar_cases y s) as (λ _. rank y < rank x) [
    | inl a ↦ absurd (omega (arith, a, l))
    | inr a ↦ omega (arith, a.1, rank-two y l, rank-last x h m)
  ]

  sides : (p q : Bool) → nat_lt x 0x1_0000 ≡ p → nat_lt y 0x1_0000 ≡ q → slice_cmp nat_cmp (units_by p x ++ b) (units_by q y ++ c) ≡ nat_cmp (rank x) (rank y)
  sides true true e f = first_decides x y (rank x) (rank y) _ n (λ h. rises x y h (ltb-true y 0x1_0000 f)) (λ h. rises y x h (ltb-true x 0x1_0000 e))
  sides true false e f = elim (scalar_cases x sx) as (λ _. slice_cmp nat_cmp (units_by true x ++ b) (units_by false y ++ c) ≡ nat_cmp (rank x) (rank y)) [
    | inl a ↦ first_decides x (0xD800 + (y - 0x1_0000) / 0x400) (rank x) (rank y) _ (λ h. omega (arith, a, h)) (λ h. below x y (ltb-false y 0x1_0000 f) (omega (arith, a))) (λ h. absurd (omega (arith, a, h)))
    | inr a ↦ let top = (high_bounds y sy).1 in first_decides x (0xD800 + (y - 0x1_0000) / 0x400) (rank x) (rank y) _ (λ h. omega (arith, a.0, h, top)) (λ h. absurd (omega (arith, a.0, h, top))) (λ h. above x y sy (ltb-false y 0x1_0000 f) a.0 (ltb-true x 0x1_0000 e))
  ]
  sides false true e f = elim (scalar_cases y sy) as (λ _. slice_cmp nat_cmp (units_by false x ++ b) (units_by true y ++ c) ≡ nat_cmp (rank x) (rank y)) [
    | inl a ↦ first_decides (0xD800 + (x - 0x1_0000) / 0x400) y (rank x) (rank y) _ (λ h. omega (arith, a, h)) (λ h. absurd (omega (arith, a, h))) (λ h. below y x (ltb-false x 0x1_0000 e) (omega (arith, a)))
    | inr a ↦ let top = (high_bounds x sx).1 in first_decides (0xD800 + (x - 0x1_0000) / 0x400) y (rank x) (rank y) _ (λ h. omega (arith, a.0, h, top)) (λ h. above y x sx (ltb-false x 0x1_0000 e) a.0 (ltb-true y 0x1_0000 f)) (λ h. absurd (omega (arith, a.0, h, top)))
  ]
  sides false false e f =
      let p : 0x1_0000 ≤ x = ltb-false x 0x1_0000 e in
      let q : 0x1_0000 ≤ y = ltb-false y 0x1_0000 f in
      let r = rank-two x p in
      let s = rank-two y q in
      two_decide (0xD800 + (x - 0x1_0000) / 0x400) (0xD800 + (y - 0x1_0000) / 0x400) (0xDC00 + (x - 0x1_0000) % 0x400) (0xDC00 + (y - 0x1_0000) % 0x400) (rank x) (rank y) _ (λ h. omega (arith, p, q, r, s, h)) (λ h. omega (arith, p, q, r, s, h))
      (λ h. ((λ g. n (omega (arith, p, q, h, g))), (λ g. omega (arith, p, q, r, s, h, g)), (λ g. omega (arith, p, q, r, s, h, g))))

  pub by_units : slice_cmp nat_cmp (encode_utf16 x ++ b) (encode_utf16 y ++ c) ≡ nat_cmp (rank x) (rank y)
  by_units = sides (nat_lt x 0x1_0000) (nat_lt y 0x1_0000) refl refl

-- the units of a text, character by character
pub units-character : (b rest : List ℕ) (c : ℕ) → IsUtf8 b → b ≡ encode_utf8 c ++ rest → units b ≡ encode_utf16 c ++ units rest
units-character b rest c u e =
    let p = cons_from_encodes u.0 rest c (u.1.1 ∙ e) in
    let left = IsUtf8-past_char b rest c u e in
    ap (flat_map encode_utf16) (sym (chars_from_encodes u.0 b u u.1.1) ∙ p.1) ∙ ap (λ cs. encode_utf16 c ++ flat_map encode_utf16 cs) (chars_from_encodes p.0 rest left p.2)

module _ (b d r t : List ℕ) (x y : ℕ) (u : IsUtf8 b) (v : IsUtf8 d) (e : b ≡ encode_utf8 x ++ r) (f : d ≡ encode_utf8 y ++ t) where
  -- two texts that begin with these characters
  pub both_begin : slice_cmp nat_cmp (units b) (units d) ≡ slice_cmp nat_cmp (encode_utf16 x ++ units r) (encode_utf16 y ++ units t)
  both_begin = ap₂ (slice_cmp nat_cmp) (units-character b r x u e) (units-character d t y v f)

  front : (c p q : List ℕ) → slice_cmp nat_cmp (c ++ p) (c ++ q) ≡ slice_cmp nat_cmp p q
  front [] p q = refl
  front (z ∷ c) p q = ap (λ o. ordering_then o (slice_cmp nat_cmp (c ++ p) (c ++ q))) (same z) ∙ front c p q

  -- with one and the same
  pub both_go_on : x ≡ y → slice_cmp nat_cmp (units r) (units t) ≡ slice_cmp nat_cmp (units b) (units d)
  both_go_on g = sym (both_begin ∙ ap (λ z. slice_cmp nat_cmp (encode_utf16 x ++ units r) (encode_utf16 z ++ units t)) (sym g) ∙ front (encode_utf16 x) (units r) (units t))

pub begun_by : (p : Bool) (c : ℕ) (r : List ℕ) → (slice_cmp nat_cmp (units_by p c ++ r) [] ≡ Greater) × (slice_cmp nat_cmp [] (units_by p c ++ r) ≡ Less)
begun_by true c r = (refl, refl)
begun_by false c r = (refl, refl)

-- a text that goes on where the other ends
pub goes_on : (b r : List ℕ) (c : ℕ) → IsUtf8 b → b ≡ encode_utf8 c ++ r → (slice_cmp nat_cmp (units b) [] ≡ Greater) × (slice_cmp nat_cmp [] (units b) ≡ Less)
goes_on b r c u e =
    let p = begun_by (nat_lt c 0x1_0000) c (units r) in
    (ap (λ l. slice_cmp nat_cmp l []) (units-character b r c u e) ∙ p.0, ap (λ l. slice_cmp nat_cmp [] l) (units-character b r c u e) ∙ p.1)

pub units-none : (b : List ℕ) → length b ≡ 0 → units b ≡ []
units-none [] e = ap (flat_map encode_utf16) chars-nil
units-none (x ∷ b) e = absurd (omega (arith, e))
