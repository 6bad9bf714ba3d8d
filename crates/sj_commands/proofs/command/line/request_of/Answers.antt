use Rattle.std.proofs.Common.{◌≡◌, ◌∙◌, sym, ap, rules, refl}
use Rattle.std.proofs.lemmas.Result.{IfOk-weaker}
use Rattle.sj_text_core.specs.Tree.{Tree}
use Rattle.sj_text_core.specs.Grammar.{Spells}
use Rattle.sj_text_core.specs.Keep.{keep}
use Rattle.sj_text_core.specs.Repeats.{keep_by}
use Rattle.sj_tape.specs.Value.{tape_part}
use Rattle.sj_commands.specs.Commands.{PlainCommand, bad}
use Rattle.sj_commands.specs.CommandLines.{IsCommandOf, command_in}
use Rattle.sj_commands.specs.Meant.{request_meant}
use Rattle.sj_commands.specs.inner.Parts.{kept_part}
use Rattle.sj_commands.specs.declared.request.Request.{Request}
use Rattle.sj_commands.proofs.CommandLemmas.{reads_tree, reads_one, reads_bad, reads_bad_only}
use Rattle.sj_text_core.proofs.Unread.{unreadable}
use Rattle.sj_commands.proofs.command.line.request_of.Goals as goal

pub returns-in-Ok-clause-is : goal.returns-in-Ok-clause-is
returns-in-Ok-clause-is c =
    let b = c.args.line.now in
    let read = c.in-Ok.ensures in
    let t = kept_part (tape_part c.as_value.result) in
    let same : t ≡ keep c.in-Ok.tape = λ i. keep_by (c.as_value.ensures.choice i) (c.as_value.ensures.tree i) in
    IfOk-weaker c.request_in.result (λ (x : Request). request_meant x ≡ command_in t) (λ (x : Request). IsCommandOf b (request_meant x))
    (λ x h. reads_tree b t c.in-Ok.tape (request_meant x) read.spelled read.within same h) c.request_in.ensures

pub returns-in-Ok-clause-only : goal.returns-in-Ok-clause-only
returns-in-Ok-clause-only c =
    let b = c.args.line.now in
    let read = c.in-Ok.ensures in
    let t = kept_part (tape_part c.as_value.result) in
    let only : (u : Tree) → Spells b u → t ≡ keep u = λ u s. (λ i. keep_by (c.as_value.ensures.choice i) (c.as_value.ensures.tree i)) ∙ ap keep (sym (read.only u s)) in
    IfOk-weaker c.request_in.result (λ (x : Request). request_meant x ≡ command_in t) (λ (x : Request). (d : PlainCommand) → IsCommandOf b d → d ≡ request_meant x)
    (λ x h d. reads_one b t (request_meant x) d only (c.in-Ok.tape, read.spelled, read.within) h) c.request_in.ensures

pub returns-else-eq-clause-is : goal.returns-else-eq-clause-is
returns-else-eq-clause-is c = reads_bad c.args.line.now bad (unreadable c.in-Err.kind c.args.line.now c.in-Err.ensures.utf8 c.in-Err.ensures.err (search rules)) refl

pub returns-else-eq-clause-only : goal.returns-else-eq-clause-only
returns-else-eq-clause-only c = λ d h. reads_bad_only c.args.line.now bad d (unreadable c.in-Err.kind c.args.line.now c.in-Err.ensures.utf8 c.in-Err.ensures.err (search rules)) refl h
