-- Positions are the numerals of JSON below 2^64.
use Rattle.std.proofs.Common.{◌≡◌, ◌≢◌, ◌⊎◌, inl, inr, ◌≤◌, ◌<◌, ◌^◌, ◌&&◌, ◌↔◌, ℕ, Bool, true, false, nat_lt, List, [], ◌∷◌, Some, None, eqb, if◌then◌else◌, refl, sym, ap, subst, ◌∙◌, arith}
use Rattle.std.specs.Char.{is_ascii_digit}
use Rattle.std.specs.List.{AllByRecursion, list_all}
use Rattle.std.proofs.lemmas.Bool.Decides.{eqb_tells, nat_tests}
use Rattle.std.proofs.lemmas.Bool.{ltb-true, lt-ltb}
use Rattle.sj_text_core.specs.Grammar.{IsDigit, IsNumeral, value_of}
use Rattle.sj_text_core.specs.Places.{is_empty, is_index, position_of}
use Rattle.sj_pointer.proofs.Spellings.{left, right}

low : (c : ℕ) → is_ascii_digit c ≡ true → 48 ≤ c
low c e = grind (arith, nat_tests)

high : (c : ℕ) → is_ascii_digit c ≡ true → c ≤ 57
high c e = grind (arith, nat_tests)

inside : (c : ℕ) → 48 ≤ c → c ≤ 57 → is_ascii_digit c ≡ true
inside c l m = grind (arith, nat_tests)

digits_from : (s : List ℕ) → list_all is_ascii_digit s ≡ true → AllByRecursion IsDigit s
digits_from [] e = tt
digits_from (c ∷ s) e =
    let d = left (is_ascii_digit c) (list_all is_ascii_digit s) e in
    ((low c d, high c d), digits_from s (right (is_ascii_digit c) (list_all is_ascii_digit s) e))

digits_to : (s : List ℕ) → AllByRecursion IsDigit s → list_all is_ascii_digit s ≡ true
digits_to [] h = refl
digits_to (c ∷ s) h = λ i. inside c h.0.0 h.0.1 i && digits_to s h.1 i

is_nil : (s : List ℕ) → is_empty s ≡ true → s ≡ []
is_nil [] e = refl
is_nil (c ∷ s) e = cc

alone : IsNumeral (48 ∷ [])
alone = record { some = omega arith; digits = ((omega arith, omega arith), tt); plain = λ _. refl }

numeral_from : (s : List ℕ) → is_index s ≡ true → IsNumeral s
numeral_from [] e = cc
numeral_from (b ∷ s) e = by (eqb_tells b 48) where
  by : ((eqb b 48 ≡ true) × (b ≡ 48)) ⊎ ((eqb b 48 ≡ false) × (b ≢ 48)) → IsNumeral (b ∷ s)
  by (inl h) =
      let n = is_nil s (ap (λ t. if t then is_empty s else list_all is_ascii_digit (b ∷ s)) (sym h.0) ∙ e) in
      subst (λ (l : List ℕ). IsNumeral l) (λ i. sym h.1 i ∷ sym n i) alone
  by (inr h) = record {
    some = omega arith;
    digits = digits_from (b ∷ s) (ap (λ t. if t then is_empty s else list_all is_ascii_digit (b ∷ s)) (sym h.0) ∙ e);
    plain = λ z. absurd (h.1 z);
  }

numeral_to : (s : List ℕ) → IsNumeral s → is_index s ≡ true
numeral_to [] n = absurd (omega (arith, n.some))
numeral_to (b ∷ s) n = by (eqb_tells b 48) where
  by : ((eqb b 48 ≡ true) × (b ≡ 48)) ⊎ ((eqb b 48 ≡ false) × (b ≢ 48)) → is_index (b ∷ s) ≡ true
  by (inl h) = ap is_index (n.plain h.1)
  by (inr h) = ap (λ t. if t then is_empty s else list_all is_ascii_digit (b ∷ s)) h.0 ∙ digits_to (b ∷ s) n.digits

chosen : (b : Bool) (n i : ℕ) → (if b then Some n else None) ≡ Some i → (b ≡ true) × (n ≡ i)
chosen true n i e = (refl, (cc))
chosen false n i e = cc

place_from : (s : List ℕ) (i : ℕ) → position_of s ≡ Some i → IsNumeral s × (value_of s ≡ i) × (i < 2 ^ 64)
place_from s i e =
    let c = chosen (is_index s && nat_lt (value_of s) (2 ^ 64)) (value_of s) i e in
    let l = ltb-true (value_of s) (2 ^ 64) (right (is_index s) (nat_lt (value_of s) (2 ^ 64)) c.0) in
    (numeral_from s (left (is_index s) (nat_lt (value_of s) (2 ^ 64)) c.0), c.1, omega (arith, c.1, l))

place_to : (s : List ℕ) (i : ℕ) → IsNumeral s → value_of s ≡ i → i < 2 ^ 64 → position_of s ≡ Some i
place_to s i n e h =
    (λ j. if numeral_to s n j && lt-ltb (value_of s) (2 ^ 64) (omega (arith, e, h)) j then Some (value_of s) else None) ∙ ap Some e

pub places_are : (s : List ℕ) (i : ℕ) → (position_of s ≡ Some i) ↔ (IsNumeral s × (value_of s ≡ i) × (i < 2 ^ 64))
places_are s i = (place_from s i, λ h. place_to s i h.0 h.1 h.2)
