-- Lines whose replies have no room.
use Rattle.std.specs.Prelude.{ℕ, List}
use Rattle.sj_text_core.specs.Tree.{Tree}
use Rattle.sj_text_core.specs.declared.repeats.Repeats.{Repeats}
use Rattle.sj_run.specs.Answered.{PassesLines}

-- the replies to the lines alone pass 2^64-1 bytes
pub record PassesAlone (d : Repeats × Tree) (ls : List (List ℕ)) : Type 0 where
  pub passes : PassesLines d ls 0
