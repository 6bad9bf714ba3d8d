-- A walk by tokens: what is left of the way, and what a write at its end makes of the whole.
use Rattle.std.proofs.Common.{◌≡◌, ℕ, zero, suc, ◌+◌, ◌<◌, List, [], ◌∷◌, drop, Some, None, option_and_then, length, refl, sym, ap, ◌∙◌, arith}
use Rattle.std.specs.List.{slice_get}
use Rattle.sj_text_core.specs.Tree.{Tree}
use Rattle.sj_text_core.specs.Paths.{by_token, change_found, set_found}
use Rattle.sj_text_core.specs.declared.repeats.Repeats.TheVariants.{First}
use Rattle.sj_text_core.proofs.Paths.{found_same}
use Rattle.sj_pointer.specs.Pointed.{token_into, pointed, set_pointed}

-- the tokens from a depth on
drop_suc : {X : Type 0} (i : ℕ) (xs : List X) (x : X) → slice_get xs i ≡ Some x → drop i xs ≡ x ∷ drop (suc i) xs
drop_suc zero [] x e = cc
drop_suc zero (y ∷ xs) x e = cc
drop_suc (suc i) [] x e = cc
drop_suc (suc i) (y ∷ xs) x e = drop_suc i xs x e

pub drop_one : {X : Type 0} (i : ℕ) (xs : List X) (x : X) → slice_get xs i ≡ Some x → drop i xs ≡ x ∷ drop (i + 1) xs
drop_one i xs x e = let one : suc i ≡ i + 1 = omega arith in drop_suc i xs x e ∙ ap (λ j. x ∷ drop j xs) one

pub drop_all : {X : Type 0} (i : ℕ) (xs : List X) → slice_get xs i ≡ None → drop i xs ≡ []
drop_all zero [] e = refl
drop_all zero (y ∷ xs) e = cc
drop_all (suc i) [] e = refl
drop_all (suc i) (y ∷ xs) e = drop_all i xs e

pub shorter : {X : Type 0} (ys xs : List X) (x : X) → ys ≡ x ∷ xs → length xs < length ys
shorter ys xs x e = omega (arith, ap length e)

-- one token, and the tokens behind it
module _ (k : List ℕ) (ks : List (List ℕ)) (t : Tree) where
  pub find_further : (v : Tree) → token_into First k t ≡ Some v → pointed (k ∷ ks) t ≡ pointed ks v
  find_further v e = ap (option_and_then (pointed ks)) e

  pub find_nothing : token_into First k t ≡ None → pointed (k ∷ ks) t ≡ None
  find_nothing e = ap (option_and_then (pointed ks)) e

  pub set_further : (u v : Tree) → token_into First k t ≡ Some v → set_pointed (k ∷ ks) u t ≡ set_found (by_token k) (set_pointed ks u v) t
  set_further u v e = ap (λ o. change_found o (by_token k) (set_pointed ks u) t) e

-- The part that the tokens before `rest` lead to was `part`, and is w; the whole was `old`, and is n. What `rest` sets in the part is what all the tokens set in the whole, and where the part is as it was, so is the whole
abbrev pub Carries : (all rest : List (List ℕ)) (old part w n : Tree) → Type 0
Carries all rest old part w n = ((u : Tree) → w ≡ set_pointed rest u part → n ≡ set_pointed all u old) × (w ≡ part → n ≡ old)

-- the same one token further, of the part w of the part s
pub carries_further : (k : List ℕ) (all rest : List (List ℕ)) (old part next w s n : Tree) → token_into First k part ≡ Some next → s ≡ set_found (by_token k) w part
    → Carries all (k ∷ rest) old part s n → Carries all rest old next w n
carries_further k all rest old part next w s n e f c =
    (λ u q. c.0 u (f ∙ ap (λ x. set_found (by_token k) x part) q ∙ sym (set_further k rest part u next e)), λ q. c.1 (f ∙ ap (λ x. set_found (by_token k) x part) q ∙ found_same (by_token k) next part e))
