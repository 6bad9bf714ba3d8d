-- What private clauses alone cite beside Descents.
use Rattle.std.specs.Prelude.{◌≡◌, ◌<◌, ◌≤◌, ℕ, zero, suc, List, [], length, slice_index_or, Some, None, IsSome, ⊤}
use Rattle.sj_text_core.specs.Tree.{Tree}
use Rattle.sj_text_core.specs.Paths.{Step, by_key, step_into, set_found, tree_at, set_at}
use Rattle.sj_text_core.specs.inner.Find.{or_null}

abbrev pub step_at : List Step → ℕ → Step
step_at p d = slice_index_or p d (by_key [])

-- all put together again, where d steps of the path lead to cur
abbrev pub plug : List Step → ℕ → Tree → Tree → Tree
plug p zero up cur = cur
plug p (suc d) up cur = plug p d (or_null (step_into (step_at p d) up)) (set_found (step_at p d) cur up)

-- what was taken apart along the first d steps of the path
abbrev pub IsSpine : List Step → ℕ → Tree → Type 0
IsSpine p zero up = ⊤
IsSpine p (suc d) up = IsSome (step_into (step_at p d) up) × IsSpine p d (or_null (step_into (step_at p d) up))

-- Where a way down the path ends: at what stands at the path, in whose place anything may be put, or before a step that finds nothing. Nothing is lost.
pub record Descended (p : List Step) (before cur up : Tree) (d : ℕ) : Type 0 where
  pub within : d ≤ length p
  pub spine : IsSpine p d up
  pub whole : plug p d up cur ≡ before
  pub reached : d ≡ length p → (tree_at p before ≡ Some cur) × ((n : Tree) → plug p d up n ≡ set_at p n before)
  pub missed : d < length p → tree_at p before ≡ None
