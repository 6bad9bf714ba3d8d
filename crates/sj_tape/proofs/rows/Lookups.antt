-- Look-ups in lists of pairs.
use Rattle.std.proofs.Common.{◌≡◌, ℕ, List, [], ◌∷◌, refl, codes, Some, None}
use Rattle.sj_tape.specs.inner.Lookup.{first_value, last_value, keys_compared}

abbrev pairs : List (List ℕ × ℕ)
pairs = (codes "a", 1) ∷ (codes "b", 2) ∷ (codes "a", 3) ∷ []

first-row : first_value (codes "a") pairs ≡ Some 1
first-row = refl

last-row : last_value (codes "a") pairs ≡ Some 3
last-row = refl

first-absent : first_value (codes "c") pairs ≡ None
first-absent = refl

last-absent : last_value (codes "c") pairs ≡ None
last-absent = refl

-- the pair that is found is compared too
compared-row : keys_compared (codes "b") pairs ≡ 2
compared-row = refl

compared-all : keys_compared (codes "c") pairs ≡ 3
compared-all = refl
