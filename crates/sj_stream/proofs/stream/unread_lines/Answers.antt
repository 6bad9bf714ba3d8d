use Rattle.std.proofs.Common.{List, [], ◌++◌, sym, subst, ap, ◌∙◌, append-nil}
use Rattle.sj_stream.specs.declared.unread.Unread.{Unread}
use Rattle.sj_lines.specs.Lines.{numbered_lines}
use Rattle.sj_stream.specs.Readings.{onto_refusals}
use Rattle.sj_stream.specs.Stream.{waiting}
use Rattle.sj_stream.proofs.Runs.{Ran, ran-none, ran-more, ran-all}
use Rattle.sj_stream.proofs.stream.unread_lines.Goals as goal

pub loop-answer-init : goal.loop-answer-init
loop-answer-init c =
    subst (λ (us : List Unread). Ran (numbered_lines c.args.input.now) (waiting c.new-stream.result) us) (sym c.new-found.ensures.items) (ran-none _ _ c.new-stream.ensures.waiting)

pub loop-answer-preserved-in-Continue-1 : goal.loop-answer-preserved-in-Continue-1
loop-answer-preserved-in-Continue-1 c =
    let new = c.advance.new.self in
    let e = ap (λ a. c.loop-answer.found.items ++ onto_refusals a []) c.in-Err.is ∙ sym c.in_ok-push.ensures.items in
    subst (λ (us : List Unread). Ran (numbered_lines c.args.input.now) (waiting new) us) e (ran-more _ c.loop-answer.stream new _ c.in-Some.answer c.loop-answer.invariant c.in-Some.ensures.some)

pub loop-answer-preserved : goal.loop-answer-preserved
loop-answer-preserved c =
    let new = c.advance.new.self in
    let e = ap (λ a. c.loop-answer.found.items ++ onto_refusals a []) c.in_default-answer.is ∙ append-nil c.loop-answer.found.items in
    subst (λ (us : List Unread). Ran (numbered_lines c.args.input.now) (waiting new) us) e (ran-more _ c.loop-answer.stream new _ c.in-Some.answer c.loop-answer.invariant c.in-Some.ensures.some)

pub returns : goal.returns
returns c = ran-all _ _ _ c.loop-answer.invariant c.in_default.ensures.none
