-- What private clauses alone cite beside Steps.
use Rattle.std.specs.Prelude.{ℕ, List, Option, None, Some}
use Rattle.sj_object.specs.Entries.{Entry}
use Rattle.sj_object.specs.Steps.{entries_visited, walk}

module _ {K V : Type 0} where
  -- how many entries a lookup compares, by how many buckets there are
  abbrev pub entries_compared : (List ℕ → ℕ) → Option ℕ → List ℕ → List (Entry K V) → ℕ
  entries_compared h None k es = entries_visited k es
  entries_compared h (Some n) k es = walk h n k es
