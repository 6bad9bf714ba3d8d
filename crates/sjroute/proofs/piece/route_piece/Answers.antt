use Rattle.std.proofs.Common.{ℕ, suc, Result, subst, ◌∙◌, inl, inr}
use Rattle.sj_lines.specs.Lines.{full_lines, numbered}
use Rattle.sj_tape.specs.Value.{tape_tree}
use Rattle.sj_stream.specs.Answers.{IsRead, answer_line}
use Rattle.sj_stream.specs.Stream.{waiting, current}
use Rattle.sj_stream.specs.declared.unread.Unread.{Unread}
use Rattle.sjroute.proofs.Runs.{goes-on, taken-text, is-message, is-broken}
use Rattle.sjroute.proofs.piece.route_piece.Goals as goal

pub loop-step-preserved-in-Some-value : goal.loop-step-preserved-in-Some-value
loop-step-preserved-in-Some-value c =
    let text = c.in-Some-text.text.now in
    let new = c.advance.new.self in
    let next = taken-text c.loop-step.stream new text c.in-Some.step c.loop-step.invariant.told c.in-Some-text.ensures c.in-Some.ensures.some in
    let read = subst (λ (a : Result ℕ Unread). IsRead text a (current new)) c.in-Ok.is next.1 in
    let put = c.in_ok-is_met-in-Ok.ensures in
    let one = is-message text c.in-Ok.field-0 (current new) (tape_tree c.in-Some-value.message) c.loop-step.routes c.put_message.new.routes c.in_ok-is_met-in-Ok.is_met read c.in-Some-value.ensures.tree put.any put.taken in
    record {
      told = c.advance.ensures.tells ∙ c.loop-step.invariant.told;
      on = goes-on (numbered (suc c.args.before) (full_lines c.args.piece.now)) c.args.routes.now (answer_line c.in-Some.step, text) (waiting c.loop-step.stream) (waiting new) c.loop-step.routes c.put_message.new.routes c.loop-step.invariant.on next.0 (inl one);
    }

pub loop-step-preserved : goal.loop-step-preserved
loop-step-preserved c =
    let text = c.in-Some-text.text.now in
    let new = c.advance.new.self in
    let next = taken-text c.loop-step.stream new text c.in-Some.step c.loop-step.invariant.told c.in-Some-text.ensures c.in-Some.ensures.some in
    let read = subst (λ (a : Result ℕ Unread). IsRead text a (current new)) c.in-Err.is next.1 in
    let taken = c.in_ok-take_broken-in-Err.ensures in
    let one = is-broken text c.in-Err.unread (current new) c.loop-step.routes c.take_broken.new.routes read taken.known taken.taken in
    record {
      told = c.advance.ensures.tells ∙ c.loop-step.invariant.told;
      on = goes-on (numbered (suc c.args.before) (full_lines c.args.piece.now)) c.args.routes.now (answer_line c.in-Some.step, text) (waiting c.loop-step.stream) (waiting new) c.loop-step.routes c.take_broken.new.routes c.loop-step.invariant.on next.0 (inr one);
    }
