use Rattle.std.proofs.Common.{◌≡◌, ◌++◌, option_map, map}
use Rattle.sj_text_core.specs.Tree.{items_from}
use Rattle.sj_tape.specs.Items.{items_parts_ahead}
use Rattle.sj_commands.specs.CommandLines.{steps_in}
use Rattle.sj_commands.specs.Meant.{path_meant}
use Rattle.sj_commands.specs.inner.Parts.{kept_part, parts_in}
use Rattle.sj_commands.proofs.command.line.steps_in.Given as goal

abbrev pub invariant-loop-item : goal.invariant-loop-item
invariant-loop-item l =
    option_map (λ p. path_meant l.steps.items ++ p) (steps_in (items_from (map kept_part (items_parts_ahead l.item-iterator)))) ≡ steps_in (items_from (map kept_part (parts_in l.fn.items)))
