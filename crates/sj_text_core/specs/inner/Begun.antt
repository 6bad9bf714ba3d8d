-- Bytes that begin with others. Only private clauses cite it.
use Rattle.std.specs.Prelude.{◌≡◌, ℕ, List, ◌++◌}

-- new begins with old, and goes on in some way
pub record IsBegunBy (old new : List ℕ) : Type 0 where
  pub more : List ℕ
  pub goes_on : new ≡ old ++ more
