-- Texts compared, and what is found where the first may have the text.
use Rattle.std.proofs.Common.{◌≡◌, ◌≢◌, ℕ, Bool, true, false, List, Option, Some, None, if◌then◌else◌, bytes_eq, refl, sym, ◌∙◌, true≢false}
use Rattle.std.proofs.lemmas.Bool.{false_from_ne_true}
use Rattle.std.proofs.lemmas.Slice.Eq.{bytes_eq-Decides}

pub bytes_eq-self : (k : List ℕ) → bytes_eq k k ≡ true
bytes_eq-self k = (bytes_eq-Decides k k).1 refl

pub ne_bytes_eq : (k l : List ℕ) → k ≢ l → bytes_eq k l ≡ false
ne_bytes_eq k l n = false_from_ne_true (bytes_eq k l) (λ e. n ((bytes_eq-Decides k l).0 e))

pub bytes_eq-sym : (k l : List ℕ) → bytes_eq k l ≡ false → bytes_eq l k ≡ false
bytes_eq-sym k l e = ne_bytes_eq l k (λ q. true≢false (sym ((bytes_eq-Decides k l).1 (sym q)) ∙ e))

-- where nothing is found, neither the first has the text nor one behind it
pub absent_parts : {A : Type 0} (b : Bool) (x : A) (r : Option A) → (if b then Some x else r) ≡ None → (b ≡ false) × (r ≡ None)
absent_parts true x r e = cc
absent_parts false x r e = (refl, e)
