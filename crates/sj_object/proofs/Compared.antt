-- How many entries a look-up compares at most.
use Rattle.std.proofs.Common.{◌≡◌, ℕ, ◌+◌, ◌≤◌, ◌%◌, ◌==◌, Bool, true, false, List, [], ◌∷◌, bytes_eq, arith, count_by}
use Rattle.std.specs.Bool.{if◌then◌else◌}
use Rattle.std.proofs.lemmas.List.Sums.{sum_by-cons}
use Rattle.sj_text_core.specs.Keep.{is_seen}
use Rattle.sj_object.specs.Entries.{Entry, entry_texts}
use Rattle.sj_object.specs.Steps.{chain, walk, found_on}

module _ {K V : Type 0} where
  -- from an entry on there are no more than in all
  on-le : (p : Entry K V → Bool) (k : List ℕ) (es : List (Entry K V)) → count_by p (found_on k es) ≤ count_by p es
  on-le p k [] = omega arith
  on-le p k (e ∷ es) = by_test (bytes_eq k e.0.1) (on-le p k es) where
    by_test : (b : Bool) → count_by p (found_on k es) ≤ count_by p es → count_by p (if b then e ∷ es else found_on k es) ≤ count_by p (e ∷ es)
    by_test true h = omega arith
    by_test false h =
        let more : count_by p (e ∷ es) ≡ (if p e then 1 else 0) + count_by p es = sum_by-cons (λ (x : Entry K V). if p x then 1 else 0) e es in
        omega (arith, h, more)

  pub walk-le-chain : (h : List ℕ → ℕ) (n : ℕ) (k : List ℕ) (es : List (Entry K V)) → walk h n k es ≤ chain h n k es
  walk-le-chain h n k es = by_test (is_seen k (entry_texts es)) where
    by_test : (b : Bool) → chain h n k (if b then found_on k es else es) ≤ chain h n k es
    by_test true = on-le (λ (e : Entry K V). h e.0.1 % n == h k % n) k es
    by_test false = omega arith
