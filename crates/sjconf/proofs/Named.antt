-- Keys that are named below a place, one place after another.
use Rattle.std.proofs.Common.{◌≡◌, ℕ, Bool, true, false, List, [], ◌∷◌, ◌++◌, refl, ap, ◌∙◌}
use Rattle.std.specs.Prelude.{◌||◌, bytes_eq}
use Rattle.sjconf.specs.Demands.{is_named, is_one_of, is_that, next_of}

pub or-false : (a : Bool) → (a || false) ≡ a
or-false true = refl
or-false false = refl

or-moves : (a b c : Bool) → (a || (b || c)) ≡ ((a || b) || c)
or-moves true b c = refl
or-moves false b c = refl

-- one more key
pub one_of-append : (k : List ℕ) (ls : List (List ℕ)) (l : List ℕ) → is_one_of k (ls ++ l ∷ []) ≡ (is_one_of k ls || bytes_eq l k)
one_of-append k [] l = or-false (bytes_eq l k)
one_of-append k (x ∷ ls) l = ap (λ (b : Bool). bytes_eq x k || b) (one_of-append k ls l) ∙ or-moves (bytes_eq x k) (is_one_of k ls) (bytes_eq l k)

-- one more place
pub named-append : (k : List ℕ) (p : List (List ℕ)) (qs : List (List (List ℕ))) (q : List (List ℕ)) → is_named k p (qs ++ q ∷ []) ≡ (is_named k p qs || is_that k (next_of p q))
named-append k p [] q = or-false (is_that k (next_of p q))
named-append k p (x ∷ qs) q = ap (λ (b : Bool). is_that k (next_of p x) || b) (named-append k p qs q) ∙ or-moves (is_that k (next_of p x)) (is_named k p qs) (is_that k (next_of p q))
