-- Bytes that stand for themselves between quotes.
use Rattle.std.proofs.Common.{◌≡◌, ℕ, suc, ◌<◌, ◌≤◌, List, [], ◌∷◌, ◌++◌, length, get_or, flat_map, refl, sym, ap, ap₂, ◌∙◌, arith, append_assoc}
use Rattle.std.proofs.lemmas.Bool.{ne_eqb, le-ltb}
use Rattle.sj_text_core.specs.Print.{escaped}

-- a byte that needs no escape
pub escaped_plain : (x : ℕ) → (x ≡ 34 → ⊥) → (x ≡ 92 → ⊥) → 32 ≤ x → escaped x ≡ x ∷ []
escaped_plain x q b l =
    rw (
      ne_eqb x 34 q,
      ne_eqb x 92 b,
      ne_eqb x 8 (λ e. omega arith),
      ne_eqb x 9 (λ e. omega arith),
      ne_eqb x 10 (λ e. omega arith),
      ne_eqb x 12 (λ e. omega arith),
      ne_eqb x 13 (λ e. omega arith),
      le-ltb x 16 (omega arith),
      le-ltb x 32 l,
    )

pub escaped-append : (xs ys : List ℕ) → flat_map escaped (xs ++ ys) ≡ flat_map escaped xs ++ flat_map escaped ys
escaped-append [] ys = refl
escaped-append (x ∷ xs) ys = ap (λ l. escaped x ++ l) (escaped-append xs ys) ∙ sym (append_assoc (escaped x) _ _)

-- bytes past 127 stand for themselves
pub escaped_high : (xs : List ℕ) → ((k : ℕ) → k < length xs → 128 ≤ get_or xs k 0) → flat_map escaped xs ≡ xs
escaped_high [] h = refl
escaped_high (x ∷ xs) h =
    let high : 128 ≤ x = h 0 (omega arith) in
    ap₂ (λ (a b : List ℕ). a ++ b) (escaped_plain x (λ e. omega arith) (λ e. omega arith) (omega arith)) (escaped_high xs (λ k below. h (suc k) (omega arith)))
