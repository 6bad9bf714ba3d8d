use Rattle.std.proofs.Common.{◌∙◌, ◌++◌, ◌-◌, map, take, replicate, sym, ap, arith}
use lib.Count.{count_trailing_zeros}
use Rattle.std.specs.Int.Digits.{number_from_digits}
use Rattle.std.specs.Simd.Lanes.{mask_l}
use Rattle.sj_tape.specs.inner.Lanes.{is_other}
use Rattle.sj_tape.proofs.Sixteens.{run_through_lanes, run_in_lanes, short_run_is}
use Rattle.sj_tape.proofs.reader.digits.run.Goals as goal

pub long_run-requires-clause-long : goal.long_run-requires-clause-long
long_run-requires-clause-long c =
    run_through_lanes c.args.bytes.now c.args.at c.other_lanes-others.result c.type_inv.bytes (omega arith) (c.other_lanes-others.ensures ∙ ap (λ xs. mask_l (map is_other xs)) c.lanes_at-lanes.ensures) c.if-others-eq0.true

pub move_to_end-requires : goal.move_to_end-requires
move_to_end-requires c =
    (run_in_lanes c.args.bytes.now c.args.at c.other_lanes-others.result c.type_inv.bytes (omega arith) (c.other_lanes-others.ensures ∙ ap (λ xs. mask_l (map is_other xs)) c.lanes_at-lanes.ensures) c.if-others-eq0.false).1

pub returns-clause-end : goal.returns-clause-end
returns-clause-end c =
    let r = run_in_lanes c.args.bytes.now c.args.at c.other_lanes-others.result c.type_inv.bytes (omega arith) (c.other_lanes-others.ensures ∙ ap (λ xs. mask_l (map is_other xs)) c.lanes_at-lanes.ensures) c.if-others-eq0.false in
    omega (arith, r.0)

pub returns-clause-within : goal.returns-clause-within
returns-clause-within c =
    let r = run_in_lanes c.args.bytes.now c.args.at c.other_lanes-others.result c.type_inv.bytes (omega arith) (c.other_lanes-others.ensures ∙ ap (λ xs. mask_l (map is_other xs)) c.lanes_at-lanes.ensures) c.if-others-eq0.false in
    omega (arith, r.1, c.if-bytes-at-lt16.false)

pub returns-clause-value : goal.returns-clause-value
returns-clause-value c =
    let r = run_in_lanes c.args.bytes.now c.args.at c.other_lanes-others.result c.type_inv.bytes (omega arith) (c.other_lanes-others.ensures ∙ ap (λ xs. mask_l (map is_other xs)) c.lanes_at-lanes.ensures) c.if-others-eq0.false in
    short_run_is c.args.bytes.now c.args.at _ c.number.result (sym r.0) r.1
    (c.number.ensures ∙ (ap (number_from_digits 10) c.move_to_end.ensures ∙ ap (λ xs. number_from_digits 10 (replicate (16 - count_trailing_zeros 64 c.other_lanes-others.result) 0 ++ take (count_trailing_zeros 64 c.other_lanes-others.result) xs)) c.lanes_at-lanes.ensures))
