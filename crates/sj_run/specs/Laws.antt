-- What holds of runs of commands.
use Rattle.std.specs.Prelude.{◌≡◌, List, ◌++◌, length}
use Rattle.sj_text_core.specs.Tree.{Tree}
use Rattle.sj_commands.specs.Commands.{PlainCommand}
use Rattle.sj_run.specs.Repeats.{replies_by, part_after}
use Rattle.sj_text_core.specs.declared.repeats.Repeats.{Repeats}

-- each command gives one reply
abbrev pub RepliesAreMany : Type 0
RepliesAreMany = (d : Repeats × Tree) (cs : List PlainCommand) → length (replies_by d cs) ≡ length cs

-- commands may be answered in two runs, the second on what the first left
abbrev pub RunsJoin : Type 0
RunsJoin = (d : Repeats × Tree) (cs ds : List PlainCommand)
    → (replies_by d (cs ++ ds) ≡ replies_by d cs ++ replies_by (part_after d cs) ds) × (part_after d (cs ++ ds) ≡ part_after (part_after d cs) ds)
