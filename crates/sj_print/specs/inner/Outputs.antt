-- What private clauses alone cite beside Outputs.
use Rattle.std.specs.Prelude.{◌≡◌, ℕ, List, ◌++◌}

-- what was put, with the rest makes the whole. Only private clauses cite it.
pub record Towards {S O : Type 0} (holds : S → O → List ℕ → Type 0) (old new : O) (rest whole : List ℕ) : Type 0 where
  pub done : List ℕ
  pub put : (start : S) (b : List ℕ) → holds start old b → holds start new (b ++ done)
  pub makes : done ++ rest ≡ whole
