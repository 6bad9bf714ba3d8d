-- What each step of reading takes off the front.
use Rattle.std.proofs.Common.{◌≡◌, ◌≢◌, ◌⊎◌, ℕ, suc, ◌+◌, Bool, true, false, cond, List, [], ◌∷◌, ◌++◌, take, Some, refl, sym, ap, subst, ◌∙◌, arith, inl, inr, ⊎_elim, add-one}
use Rattle.std.specs.List.{AllByRecursion}
use Rattle.std.proofs.lemmas.Bool.Decides.{nat_tests, eqb_tells}
use Rattle.sj_text_core.specs.Grammar.{IsSpace, IsBlank, IsDigit}
use Rattle.sj_text_core.specs.inner.Parse.{is_space, after_blank, is_digit, digits_len, separator_or}

-- by a truth value
pub by_cases : {P : Type 0} (b : Bool) → (b ≡ true → P) → (b ≡ false → P) → P
by_cases true t f = t refl
by_cases false t f = f refl

-- spaces
pub space_is : (c : ℕ) → is_space c ≡ true → IsSpace c
space_is c h = ⊎_elim (λ e. inl e.1) (λ n. ⊎_elim (λ e. inr (inl e.1)) (λ m. ⊎_elim (λ e. inr (inr (inl e.1))) (λ k. inr (inr (inr (last c n.1 m.1 k.1 h)))) (eqb_tells c 10)) (eqb_tells c 9)) (eqb_tells c 32)
  where
    last : (c : ℕ) → c ≢ 32 → c ≢ 9 → c ≢ 10 → is_space c ≡ true → c ≡ 13
    last c n m k h = grind (arith, nat_tests)

-- whitespace is told
pub is_space_of : (c : ℕ) → IsSpace c → is_space c ≡ true
is_space_of c h = grind (arith, nat_tests)

pub record Blank (b : List ℕ) : Type 0 where
  pub front : List ℕ
  pub is : b ≡ front ++ after_blank b
  pub blank : IsBlank front

-- whitespace taken off the front
pub blank_off : (b : List ℕ) → Blank b
blank_off [] = record { front = []; is = refl; blank = tt }
blank_off (c ∷ b) = by_cases (is_space c)
    (λ e. let k = blank_off b in
    let f : after_blank (c ∷ b) ≡ after_blank b = ap (λ t. cond t (after_blank b) (c ∷ b)) e in
    record { front = c ∷ k.front; is = ap (λ l. c ∷ l) k.is ∙ ap (λ l. c ∷ (k.front ++ l)) (sym f); blank = (space_is c e, k.blank) })
    (λ e. record { front = []; is = sym (ap (λ t. cond t (after_blank b) (c ∷ b)) e); blank = tt })

-- separators
pub separator_is : (close c : ℕ) (b : List ℕ) (m : Bool) (s : List ℕ) → separator_or close (c ∷ b) ≡ Some (m, s)
    → ((m ≡ false) × (c ≡ close) × (s ≡ b)) ⊎ ((m ≡ true) × (c ≡ 44) × (s ≡ after_blank b))
separator_is close c b m s h = grind (arith, nat_tests)

-- digits
pub digit_is : (c : ℕ) → is_digit c ≡ true → IsDigit c
digit_is c h = grind (arith, nat_tests)

-- as many digits as were counted
pub digits_are : (b : List ℕ) → AllByRecursion IsDigit (take (digits_len b) b)
digits_are [] = tt
digits_are (c ∷ b) = by_cases (is_digit c)
    (λ e. let k : digits_len (c ∷ b) ≡ suc (digits_len b) = ap (λ t. cond t (digits_len b + 1) 0) e ∙ add-one (digits_len b) in
    subst (λ (n : ℕ). AllByRecursion IsDigit (take n (c ∷ b))) (sym k) (digit_is c e, digits_are b))
    (λ e. let k : digits_len (c ∷ b) ≡ 0 = ap (λ t. cond t (digits_len b + 1) 0) e in
    subst (λ (n : ℕ). AllByRecursion IsDigit (take n (c ∷ b))) (sym k) tt)
