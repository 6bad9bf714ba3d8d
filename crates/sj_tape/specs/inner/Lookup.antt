-- Lookups in lists of pairs.
use Rattle.std.specs.Prelude.{ℕ, suc, List, [], ◌∷◌, Option, Some, None, if◌then◌else◌, bytes_eq}
use Rattle.std.specs.Option.{option_or}

module _ {V : Type 0} where
  -- the first value at the text
  abbrev pub first_value : List ℕ → List (List ℕ × V) → Option V
  first_value k [] = None
  first_value k (p ∷ ps) = if bytes_eq k p.0 then Some p.1 else first_value k ps

  -- the last value at the text
  abbrev pub last_value : List ℕ → List (List ℕ × V) → Option V
  last_value k [] = None
  last_value k (p ∷ ps) = option_or (last_value k ps) (if bytes_eq k p.0 then Some p.1 else None)

  -- the pairs up to the first with the text; all where there is none
  abbrev pub keys_compared : List ℕ → List (List ℕ × V) → ℕ
  keys_compared k [] = 0
  keys_compared k (p ∷ ps) = if bytes_eq k p.0 then 1 else suc (keys_compared k ps)
