use Rattle.std.proofs.Common.{arith, ◌≡◌, ◌+◌, ◌-◌}
use Rattle.sj_tape.proofs.Units.{pair_no_backslash, pair_no_u, pair_not_low, pair_is}
use Rattle.sj_tape.proofs.reader.escape.pair.Goals as goal

pub returns-then-bytes-at-ne92-clause-err : goal.returns-then-bytes-at-ne92-clause-err
returns-then-bytes-at-ne92-clause-err c = pair_no_backslash c.args.high c.args.bytes.now c.args.at c.if-bytes-at-ne92.true

pub returns-then-bytes-at-ne117-clause-err : goal.returns-then-bytes-at-ne117-clause-err
returns-then-bytes-at-ne117-clause-err c = pair_no_u c.args.high c.args.bytes.now c.args.at c.if-bytes-at-ne117.true

pub returns-then-low-lt56320-clause-err : goal.returns-then-low-lt56320-clause-err
returns-then-low-lt56320-clause-err c = pair_not_low c.args.high c.args.bytes.now c.args.at c.in-Some.low c.if-bytes-at-ne92.false c.if-bytes-at-ne117.false c.in-Some.ensures.value c.then-low-lt56320.either

pub returns-clause-ok : goal.returns-clause-ok
returns-clause-ok c =
    let n : c.args.at + 6 - c.args.at + 5 ≡ 11 = omega arith in
    pair_is c.args.high c.args.bytes.now c.args.at c.in-Some.low _ _ c.if-bytes-at-ne92.false c.if-bytes-at-ne117.false c.in-Some.ensures.value c.if-low-lt56320.false c.if-low-ge57344.false c.in-Some-from_u32.ensures.value.1 n
