-- What holds of differences.
use Rattle.std.specs.Prelude.{List, ◌++◌}
use Rattle.std.specs.List.{AllByRecursion}
use Rattle.sj_text_core.specs.Tree.{Tree}
use Rattle.sj_text_core.specs.Keep.{IsSingle}
use Rattle.sj_patch.specs.Patch.{PlainOperation}
use Rattle.sj_patch.specs.Laws.{HasSingleValue}
use Rattle.sj_patch.specs.Diff.{Becomes}

-- where t becomes u by the first operations, and u becomes w by the second, t becomes w by both
abbrev pub DifferencesJoin : Type 0
DifferencesJoin = (xs ys : List PlainOperation) (t u w : Tree) → AllByRecursion HasSingleValue xs → AllByRecursion HasSingleValue ys → IsSingle t → IsSingle u → Becomes xs t u → Becomes ys u w → Becomes (xs ++ ys) t w
