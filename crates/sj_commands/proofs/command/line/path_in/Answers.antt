use Rattle.std.proofs.Common.{◌≡◌, map, sym, subst, Vec, Global}
use Rattle.std.specs.Prelude.{Option, IfOk, option_map}
use Rattle.sj_text_core.specs.Tree.{Tree, list, items_from, listed}
use Rattle.sj_text_core.specs.declared.repeats.Repeats.{Repeats}
use Rattle.sj_tape.specs.Value.{tape_tree, tape_choice}
use Rattle.sj_tape.specs.Items.{items}
use Rattle.sj_commands.specs.CommandLines.{path_in}
use Rattle.sj_commands.specs.Meant.{path_meant}
use Rattle.sj_commands.specs.inner.Parts.{kept_part}
use Rattle.sj_commands.specs.declared.command.Step.{Step}
use Rattle.sj_commands.proofs.Kept.{kept_text, kept_list}
use Rattle.sj_commands.proofs.command.line.path_in.Goals as goal

pub returns-in-Some : goal.returns-in-Some
returns-in-Some c =
    let Means : Tree → Type 0 = λ t. IfOk c.pointer_in.result (λ (p : Option (Vec Step Global)). option_map (λ steps. path_meant steps.items) p ≡ path_in t) in
    subst Means (sym (kept_text (tape_choice c.args.value) (tape_tree c.args.value) c.in-Some.text.now c.in-Some.ensures)) c.pointer_in.ensures

pub returns-in-Some-as_array : goal.returns-in-Some-as_array
returns-in-Some-as_array c =
    let is = items c.in-Some-as_array.items in
    let Means : Tree → Type 0 = λ t. IfOk c.steps_in.result (λ (p : Option (Vec Step Global)). option_map (λ steps. path_meant steps.items) p ≡ path_in t) in
    let By : Repeats → Type 0 = λ r. Means (list (items_from (map kept_part (map (λ u. (r, u)) (listed is))))) in
    subst Means (sym (kept_list (tape_choice c.args.value) (tape_tree c.args.value) is c.in-Some-as_array.ensures.items)) (subst By c.in-Some-as_array.ensures.choice c.steps_in.ensures)
