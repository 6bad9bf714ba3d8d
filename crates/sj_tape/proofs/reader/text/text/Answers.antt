use Rattle.std.proofs.Common.{◌∙◌, ◌+◌, arith, sym, ap, subst, Some}
use Rattle.std.specs.Prelude.{slice_range}
use Rattle.sj_print.specs.inner.Runs.{IsAllPlain}
use Rattle.sj_tape.proofs.Overwrites.{head_utf8, head_is}
use Rattle.sj_tape.proofs.Places.{place_control, place_end, so_far_none, so_far_quote}
use Rattle.sj_tape.proofs.PlainRuns.{plain_so_far, run_is_plain, stop_is, control_is}
use Rattle.sj_tape.proofs.reader.text.text.Goals as goal

pub returns-then-end-rest-clause-err : goal.returns-then-end-rest-clause-err
returns-then-end-rest-clause-err c =
    let b = c.args.rest.now in
    λ _. so_far_none _ b 0 c.plain_end-end.result (plain_so_far b 0 c.plain_end-end.result c.plain_end-end.ensures.value) (place_end b c.plain_end-end.result c.if-end-rest.true)

pub str_of-text-requires : goal.str_of-text-requires
str_of-text-requires c = head_utf8 c.args.rest.now c.split_at_mut-head.result.0.now c.plain_end-end.result c.requires (omega (arith, c.if-end-rest.false)) c.if-rest-end-eq34.true c.split_at_mut-head.ensures.front

pub returns-then-rest-end-eq34-clause-ok : goal.returns-then-rest-end-eq34-clause-ok
returns-then-rest-end-eq34-clause-ok c =
    let b = c.args.rest.now in
    let e = c.plain_end-end.result in
    let k = c.split_at_mut-head.ensures in
    let head = head_is b c.split_at_mut-head.result.0.now e (e + 1) (omega arith) k.front ∙ sym c.str_of-text.ensures in
    record {
      text = c.str_of-text.result.now;
      was = so_far_quote _ b 0 e (plain_so_far b 0 e c.plain_end-end.ensures.value) (omega (arith, c.if-end-rest.false)) c.if-rest-end-eq34.true
          ∙ (ap (λ l. Some (slice_range b 0 e, l)) (sym k.back) ∙ ap (λ l. Some (l, c.split_at_mut-head.result.1.now)) head);
      nodes = c.in_ok-push_packed.ensures.marks;
    }

pub invariant_of-push_packed : goal.invariant_of-push_packed
invariant_of-push_packed c =
    let b = c.args.rest.now in
    let e = c.plain_end-end.result in
    let head = head_is b c.split_at_mut-head.result.0.now e (e + 1) (omega arith) c.split_at_mut-head.ensures.front ∙ sym c.str_of-text.ensures in
    record { plain = subst (λ t. IsAllPlain t) head (run_is_plain b 0 e c.plain_end-end.ensures.value) }

pub returns-then-rest-end-ne92-clause-err : goal.returns-then-rest-end-ne92-clause-err
returns-then-rest-end-ne92-clause-err c =
    let b = c.args.rest.now in
    let e = c.plain_end-end.result in
    let lt = c.if-end-rest.false in
    let stop = stop_is b 0 e c.plain_end-end.ensures.value lt in
    λ _. so_far_none _ b 0 e (plain_so_far b 0 e c.plain_end-end.ensures.value) (place_control b e lt (control_is _ stop c.if-rest-end-eq34.false c.if-rest-end-ne92.true))

pub read_escaped-requires-clause-plain : goal.read_escaped-requires-clause-plain
read_escaped-requires-clause-plain c = plain_so_far c.args.rest.now 0 c.plain_end-end.result c.plain_end-end.ensures.value

pub read_escaped-requires-clause-stop : goal.read_escaped-requires-clause-stop
read_escaped-requires-clause-stop c = λ lt. stop_is c.args.rest.now 0 c.plain_end-end.result c.plain_end-end.ensures.value lt
