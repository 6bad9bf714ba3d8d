-- Steps of a session: what a reply leaves of the tree and of the output. Of public clauses only that of `answer_owned` cites it.
use Rattle.std.specs.Prelude.{◌≡◌, ℕ, ◌+◌, ◌^◌, ◌≤◌, List, ◌++◌, length}
use Rattle.sj_text_core.specs.Tree.{Tree}
use Rattle.sj_text_core.specs.declared.repeats.Repeats.{Repeats}
use Rattle.sj_commands.specs.Commands.{PlainCommand}
use Rattle.sj_commands.specs.CommandLines.{AreCommandsOf}
use Rattle.sj_run.specs.Repeats.{replies_by, part_after}
use Rattle.sj_run.specs.Shown.{shown_all}

-- the commands of lines were answered in turn
pub record AnswersLines (d : Repeats × Tree) (texts : List (List ℕ)) (u : Repeats × Tree) (old new : List ℕ) : Type 0 where
  pub commands : List PlainCommand
  pub are : AreCommandsOf texts commands
  pub after : u ≡ part_after d commands
  pub shows : new ≡ old ++ shown_all (replies_by d commands)

-- so many bytes and all replies pass 2^64-1
abbrev pub PassesLines : Repeats × Tree → List (List ℕ) → ℕ → Type 0
PassesLines d texts n = (cs : List PlainCommand) → AreCommandsOf texts cs → 2 ^ 64 ≤ n + length (shown_all (replies_by d cs))
