-- A mask that is computed lane by lane is held to a test at each of the 256 bytes.
use Rattle.std.proofs.Common.{◌≡◌, ℕ, zero, suc, ◌%◌, ◌^◌, ◌<◌, ◌≤◌, Bool, true, false, ◌&&◌, T, List, [], ◌∷◌, map, length, ◌==◌, ◌⊎◌, ⊎_elim, inl, inr, refl, sym, ap, ap₂, ◌∙◌, subst, arith, w8, Fits, not-suc-le-zero}
use Rattle.std.specs.Bool.{beq}
use Rattle.std.proofs.lemmas.Bool.{cases_order}
use Rattle.std.proofs.lemmas.Bool.Decides.{eqb_tells}
use Rattle.std.proofs.lemmas.Simd.{mask_l-mod}
use Rattle.std.proofs.lemmas.List.{length-map}
use lib.Lanes.{mask_l, top, Each1}

-- a test that holds of each number below n, by computation
abbrev pub upto : (ℕ → Bool) → ℕ → Bool
upto p zero = true
upto p (suc n) = p n && upto p n

pub both : (a b : Bool) → T (a && b) → T a × T b
both true b h = (tt, h)
both false b h = absurd h

upto_sound : (p : ℕ → Bool) (n : ℕ) → T (upto p n) → (i : ℕ) → i < n → T (p i)
upto_sound p zero h i lt = absurd (not-suc-le-zero lt)
upto_sound p (suc n) h i lt = go (upto_sound p n (both (p n) (upto p n) h).1 i) (cases_order i n)
  where
    go : (i < n → T (p i)) → (i ≡ n) ⊎ ((i < n) ⊎ (n < i)) → T (p i)
    go below_n (inl e) = subst (λ x. T (p x)) (sym e) (both (p n) (upto p n) h).0
    go below_n (inr (inl l)) = below_n l
    go below_n (inr (inr g)) = let no : ⊥ = omega arith in absurd no

same_is : (a b : Bool) → T (beq a b) → a ≡ b
same_is true true h = refl
same_is false false h = refl
same_is true false h = absurd h
same_is false true h = absurd h

each_byte : (f : ℕ → ℕ) (p : ℕ → Bool) → T (upto (λ x. beq (top 7 (f x)) (p x)) 256) → (v : List ℕ) → Each1 (Fits w8) v → map (top 7) (map f v) ≡ map p v
each_byte f p all [] fits = refl
each_byte f p all (x ∷ xs) fits = ap₂ (λ a b. a ∷ b) (same_is _ _ (upto_sound (λ y. beq (top 7 (f y)) (p y)) 256 all x fits.0.fits)) (each_byte f p all xs fits.1)

-- the mask of the lanes is that of the test
pub masked : (f : ℕ → ℕ) (p : ℕ → Bool) (v z : List ℕ) → length v ≤ 64 → Each1 (Fits w8) v → z ≡ map f v → T (upto (λ x. beq (top 7 (f x)) (p x)) 256)
    → mask_l (map (top 7) z) % 2 ^ 64 ≡ mask_l (map p v)
masked f p v z short fits e all =
    ap (λ l. mask_l l % 2 ^ 64) (ap (map (top 7)) e ∙ each_byte f p all v fits) ∙ mask_l-mod (map p v) 64 (omega (arith, length-map v p))

is_same : (a b : ℕ) → T (a == b) → a ≡ b
is_same a b h = ⊎_elim (λ q. q.1) (λ q. absurd (subst (λ t. T t) q.0 h)) (eqb_tells a b)

-- what agrees at each byte, by computation
pub agree : (f g : ℕ → ℕ) → T (upto (λ x. f x == g x) 256) → (x : ℕ) → x < 256 → f x ≡ g x
agree f g all x lt = is_same (f x) (g x) (upto_sound (λ y. f y == g y) 256 all x lt)
