-- What private clauses alone cite beside Made.
use Rattle.std.specs.Prelude.{◌≡◌, ℕ, Bool, List, [], ◌∷◌, None, is_some, ⊤}
use Rattle.sj_text_core.specs.Tree.{Tree}
use Rattle.sj_text_core.specs.Reads.{as_members}
use Rattle.sj_text_core.specs.declared.repeats.Repeats.TheVariants.{First}
use Rattle.sj_pointer.specs.Pointed.{token_into}

-- nothing is left of the tokens, or the first that is left finds nothing in u; is tells whether u is an object
abbrev pub IsEndOf : List (List ℕ) → Tree → Bool → Type 0
IsEndOf [] u is = ⊤
IsEndOf (k ∷ ks) u is = (token_into First k u ≡ None) × (is ≡ is_some (as_members u))
