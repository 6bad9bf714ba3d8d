-- Digits and what they write.
use Rattle.std.proofs.Common.{◌≡◌, ◌≢◌, ℕ, ◌+◌, ◌-◌, ◌*◌, ◌<◌, ◌≤◌, Bool, false, List, [], ◌∷◌, length, take, drop, get_or, Some, fold, sym, ap, ◌∙◌, arith}
use Rattle.std.proofs.lemmas.List.Sums.{fold-append}
use Rattle.std.proofs.lemmas.List.{take-append-drop, take_more}
use Rattle.std.proofs.lemmas.Grind.{common_steps}
use Rattle.std.proofs.lemmas.Bool.Decides.{nat_tests}
use Rattle.sj_text_core.specs.Tree.{Tree}
use Rattle.sj_text_core.specs.Grammar.{value_of, number_of}
use Rattle.sj_text_core.specs.inner.Parse.{numeral_at, goes_on}

abbrev pub step : ℕ → ℕ → ℕ
step n c = n * 10 + (c - 48)

fold_grows : (ds : List ℕ) (n : ℕ) → n ≤ fold step n ds
fold_grows [] n = omega arith
fold_grows (d ∷ ds) n = omega (arith, fold_grows ds (step n d))

-- fewer digits write no more
pub value_of-take : (ds : List ℕ) (i : ℕ) → value_of (take i ds) ≤ value_of ds
value_of-take ds i =
    let e : value_of ds ≡ fold step (value_of (take i ds)) (drop i ds) =
    ap (λ xs. value_of xs) (sym (take-append-drop i ds)) ∙ fold-append step 0 (take i ds) (drop i ds) in
    rw e (fold_grows (drop i ds) (value_of (take i ds)))

pub value_of_more : (ds : List ℕ) (i : ℕ) → i < length ds → value_of (take (i + 1) ds) ≡ value_of (take i ds) * 10 + (get_or ds i 0 - 48)
value_of_more ds i h = ap (λ xs. value_of xs) (take_more ds i 0 h) ∙ fold-append step 0 (take i ds) (get_or ds i 0 ∷ [])

-- where the digits so far and one more pass a limit, all digits do
pub too_large : (ds : List ℕ) (i n d limit : ℕ) → i < length ds → n ≡ value_of (take i ds) → get_or ds i 0 ≡ d → limit ≤ n * 10 + (d - 48) → limit ≤ value_of ds
too_large ds i n d limit h e f k = omega (arith, value_of-take ds (i + 1), value_of_more ds i h, ap (λ (m : ℕ). m * 10) e, f)

-- a numeral that is read
pub numeral_is : (minus : Bool) (n : ℕ) (b : List ℕ) (t : Tree) → n ≢ 0 → (get_or b 0 0 ≡ 48 → n ≤ 1) → goes_on (drop n b) ≡ false
    → number_of minus (value_of (take n b)) ≡ Some t → numeral_at minus n b ≡ Some (t, drop n b)
numeral_is minus n b t some plain ends e = grind (arith, common_steps, nat_tests)
