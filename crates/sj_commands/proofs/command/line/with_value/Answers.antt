use Rattle.std.proofs.Common.{◌≡◌, sym, subst, rules}
use Rattle.std.specs.Prelude.{IfOk, unwrap_or}
use Rattle.sj_text_core.specs.Tree.{Tree}
use Rattle.sj_tape.specs.Value.{tape_tree, tape_choice}
use Rattle.sj_commands.specs.Commands.{bad}
use Rattle.sj_commands.specs.CommandLines.{command_with_value}
use Rattle.sj_commands.specs.Meant.{path_meant, request_meant}
use Rattle.sj_commands.specs.declared.request.Request.{Request}
use Rattle.sj_commands.proofs.Kept.{kept_text}
use Rattle.sj_commands.proofs.command.line.with_value.Goals as goal

pub returns-in-Some : goal.returns-in-Some
returns-in-Some c =
    let Means : Tree → Type 0 = λ t. IfOk c.with_text.result (λ (request : Request). request_meant request ≡ unwrap_or (command_with_value c.args.name.now (path_meant c.args.path.items) t) bad) in
    subst Means (sym (kept_text (tape_choice c.args.value) (tape_tree c.args.value) c.in-Some.text.now c.in-Some.ensures)) (search rules)
