-- The token that names a position.
use Rattle.std.proofs.Common.{◌≡◌, ℕ, ◌+◌, ◌-◌, ◌*◌, ◌/◌, ◌%◌, ◌<◌, ◌≤◌, ◌^◌, List, [], ◌∷◌, ◌++◌, fold, Some, sym, ap, ◌∙◌, arith, length-append}
use Rattle.std.specs.Fmt.{decimal}
use Rattle.std.proofs.lemmas.Fmt.{decimal_by_steps}
use Rattle.std.proofs.lemmas.List.Sums.{fold-append}
use Rattle.sj_text_core.specs.Grammar.{IsNumeral, value_of}
use Rattle.sj_text_core.specs.Places.{position_of}
use Rattle.sj_text_core.proofs.Printed.{digits_more, first_stays}
use Rattle.sj_pointer.proofs.Numerals.{places_are}

-- the numeral of n
record Writes (n : ℕ) (ds : List ℕ) : Type 0 where
  numeral : IsNumeral ds
  value : value_of ds ≡ n

one : (n : ℕ) → n < 10 → Writes n ((48 + n) ∷ [])
one n h = record { numeral = record { some = omega arith; digits = ((omega arith, omega (arith, h)), tt); plain = λ e. ap (λ c. c ∷ []) e }; value = omega arith }

more : (n : ℕ) (ds : List ℕ) → 10 ≤ n → Writes (n / 10) ds → Writes n (ds ++ ((48 + n % 10) ∷ []))
more n ds h w =
    let d = w.numeral in
    record {
      numeral = record {
        some = omega (arith, length-append ds ((48 + n % 10) ∷ []));
        digits = digits_more ds (48 + n % 10) d.digits (omega arith, omega arith);
        plain = λ e.
            let only : ds ≡ 48 ∷ [] = d.plain (sym (first_stays ds (48 + n % 10) d.some) ∙ e) in
            let zeroes : n / 10 ≡ 0 = sym w.value ∙ ap value_of only in
            absurd (omega (arith, zeroes, h));
      };
      value =
          let front : fold (λ m c. m * 10 + (c - 48)) 0 ds ≡ n / 10 = w.value in
          fold-append (λ (m c : ℕ). m * 10 + (c - 48)) 0 ds ((48 + n % 10) ∷ []) ∙ omega (arith, front);
    }

-- the decimal of a position names it
pub place-decimal : (n : ℕ) → n < 2 ^ 64 → position_of (decimal n) ≡ Some n
place-decimal n h = let w = decimal_by_steps Writes one more n h in (places_are (decimal n) n).1 (w.numeral, w.value, h)
