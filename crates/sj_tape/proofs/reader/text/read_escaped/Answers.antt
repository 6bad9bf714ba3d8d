use Rattle.std.proofs.Common.{refl, ◌∙◌, ◌+◌, arith, sym, ap, Some}
use Rattle.sj_tape.proofs.Overwrites.{text_utf8, ends_cut, at_quote, at_control, at_bad, at_end, room, step}
use Rattle.sj_tape.proofs.Decode.{same_rest}
use Rattle.sj_tape.proofs.Scalars.{on_err}
use Rattle.sj_tape.proofs.reader.text.read_escaped.Goals as goal

pub loop-from-init : goal.loop-from-init
loop-from-init c = record { order = omega arith; high = c.requires.within; size = refl; rest = refl; stop = c.requires.stop; text = c.requires.plain }

pub returns-then-rest-from-eq34-clause-ok : goal.returns-then-rest-from-eq34-clause-ok
returns-then-rest-from-eq34-clause-ok c =
    let e = c.split_at_mut-head.ensures in
    at_quote _ _ _ _ c.loop-from.invariant c.split_at_mut-head.result.0.now c.split_at_mut-head.result.1.now c.loop-from-test.true c.if-rest-from-eq34.true e.front e.back
    ∙ ap (λ l. Some (l, c.split_at_mut-head.result.1.now)) (sym c.str_of.ensures)

pub str_of-requires : goal.str_of-requires
str_of-requires c =
    let e = c.split_at_mut-head.ensures in
    let q = at_quote _ _ _ _ c.loop-from.invariant c.split_at_mut-head.result.0.now c.split_at_mut-head.result.1.now c.loop-from-test.true c.if-rest-from-eq34.true e.front e.back in
    text_utf8 _ _ _ c.requires.utf8 q

pub returns-then-rest-from-eq34-clause-ends : goal.returns-then-rest-from-eq34-clause-ends
returns-then-rest-from-eq34-clause-ends c =
    ends_cut c.args.rest.now _ (c.loop-from.from + 1) c.requires.utf8 (c.split_at_mut-head.ensures.back ∙ same_rest _ _ c.loop-from.from (c.loop-from.from + 1) (omega arith) c.loop-from.invariant.rest)

pub returns-then-rest-from-ne92-clause-err : goal.returns-then-rest-from-ne92-clause-err
returns-then-rest-from-ne92-clause-err c = at_control _ _ _ _ c.loop-from.invariant c.loop-from-test.true c.if-rest-from-eq34.false c.if-rest-from-ne92.true

pub returns-in_err-character-clause-err : goal.returns-in_err-character-clause-err
returns-in_err-character-clause-err c = on_err _ (at_bad _ _ _ _ c.loop-from.invariant c.loop-from-test.true c.if-rest-from-ne92.false c.in_err-character.ensures.err)

pub put-to-requires : goal.put-to-requires
put-to-requires c =
    omega (arith, c.in_ok-character.ensures.within.1, room _ _ _ _ c.loop-from.invariant c.in_ok-character.character c.in_ok-character.next c.in_ok-character.ensures.within.0 c.in_ok-character.ensures.ok)

pub move_run-to-requires-clause-down : goal.move_run-to-requires-clause-down
move_run-to-requires-clause-down c =
    omega (arith, c.put-to.ensures.next, room _ _ _ _ c.loop-from.invariant c.in_ok-character.character c.in_ok-character.next c.in_ok-character.ensures.within.0 c.in_ok-character.ensures.ok)

pub loop-from-preserved : goal.loop-from-preserved
loop-from-preserved c =
    let k = c.in_ok-character.ensures in
    step _ _ _ _ c.loop-from.invariant c.put-to.new.bytes c.move_run-to.new.bytes c.in_ok-character.character c.in_ok-character.next c.plain_end-from.result c.put-to.result c.move_run-to.result
    c.loop-from-test.true c.if-rest-from-ne92.false k.within.0 k.within.1 k.ok c.put-to.ensures.next c.put-to.ensures.new c.plain_end-from.ensures.value c.plain_end-from.ensures.bound c.move_run-to.ensures.next c.move_run-to.ensures.new

pub returns-clause-err : goal.returns-clause-err
returns-clause-err c = at_end _ _ _ _ c.loop-from.invariant c.loop-from-test.false
