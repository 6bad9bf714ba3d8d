use Rattle.std.proofs.Common.{◌≡◌, map, sym, subst}
use Rattle.std.specs.Prelude.{IfOk}
use Rattle.sj_text_core.specs.Tree.{Tree, list, items_from, listed}
use Rattle.sj_text_core.specs.declared.repeats.Repeats.{Repeats}
use Rattle.sj_tape.specs.Value.{tape_tree, tape_choice}
use Rattle.sj_tape.specs.Items.{items}
use Rattle.sj_commands.specs.CommandLines.{command_in}
use Rattle.sj_commands.specs.Meant.{request_meant}
use Rattle.sj_commands.specs.inner.Parts.{kept_part}
use Rattle.sj_commands.specs.declared.request.Request.{Request}
use Rattle.sj_commands.proofs.Kept.{kept_list}
use Rattle.sj_commands.proofs.command.line.request_in.Goals as goal

pub returns-in-Some : goal.returns-in-Some
returns-in-Some c =
    let is = items c.in-Some.items in
    let Means : Tree → Type 0 = λ t. IfOk c.in_items.result (λ (request : Request). request_meant request ≡ command_in t) in
    let By : Repeats → Type 0 = λ r. Means (list (items_from (map kept_part (map (λ u. (r, u)) (listed is))))) in
    subst Means (sym (kept_list (tape_choice c.args.value) (tape_tree c.args.value) is c.in-Some.ensures.items)) (subst By c.in-Some.ensures.choice c.in_items.ensures)
