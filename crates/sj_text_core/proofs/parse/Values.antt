-- How a value is read, by its first byte.
use Rattle.std.proofs.Common.{◌≡◌, ◌≢◌, ℕ, zero, suc, List, ◌∷◌, refl, arith}
use Rattle.std.proofs.lemmas.Grind.{common_steps}
use Rattle.std.proofs.lemmas.Bool.Decides.{nat_tests}
use Rattle.sj_text_core.specs.Tree.{Tree}
use Rattle.sj_text_core.specs.inner.Parse.{Reading, number_at, list_at, obj_at, read_value, value_by, nothing_at}

-- a value that begins with none of these is a number
pub value_by_other : (f g : List ℕ → Reading Tree) (c : ℕ) (b : List ℕ) → c ≢ 34 → c ≢ 91 → c ≢ 123 → c ≢ 110 → c ≢ 116 → c ≢ 102 → value_by f g (c ∷ b) ≡ number_at (c ∷ b)
value_by_other f g c b h1 h2 h3 h4 h5 h6 = grind (arith, common_steps, nat_tests)

abbrev pub in_list : ℕ → List ℕ → Reading Tree
in_list zero = nothing_at
in_list (suc d) = list_at (read_value d)

abbrev pub in_obj : ℕ → List ℕ → Reading Tree
in_obj zero = nothing_at
in_obj (suc d) = obj_at (read_value d)

-- a value by what may follow a bracket
pub value_is : (d : ℕ) (b : List ℕ) → read_value d b ≡ value_by (in_list d) (in_obj d) b
unfolding read_value
value_is zero b = refl
value_is (suc d) b = refl
