use Rattle.std.proofs.Common.{arith, ◌≡◌, ◌+◌, ◌-◌}
use Rattle.sj_tape.proofs.Units.{code_by_pair, code_by_pair_err, code_is, code_lone}
use Rattle.sj_tape.proofs.reader.escape.code.Goals as goal

pub returns-then-first-lt56320-clause-ok : goal.returns-then-first-lt56320-clause-ok
returns-then-first-lt56320-clause-ok c = code_by_pair c.args.bytes.now c.args.at c.in-Some.first c.pair.result c.in-Some.ensures.value c.if-first-ge55296.true c.if-first-lt56320.true c.pair.ensures.within c.pair.ensures.ok

pub returns-then-first-lt56320-clause-err : goal.returns-then-first-lt56320-clause-err
returns-then-first-lt56320-clause-err c = code_by_pair_err c.args.bytes.now c.args.at c.in-Some.first c.pair.result c.in-Some.ensures.value c.if-first-ge55296.true c.if-first-lt56320.true c.pair.ensures.err

pub returns-in-Some-from_u32-clause-ok : goal.returns-in-Some-from_u32-clause-ok
returns-in-Some-from_u32-clause-ok c =
    let n : c.args.at + 4 - c.args.at + 1 ≡ 5 = omega arith in
    code_is c.args.bytes.now c.args.at c.in-Some.first _ _ c.in-Some.ensures.value c.in-Some-from_u32.ensures.value.0 c.in-Some-from_u32.ensures.value.1 n

pub returns-in-None-clause-err : goal.returns-in-None-clause-err
returns-in-None-clause-err c = code_lone c.args.bytes.now c.args.at c.in-Some.first c.in-Some.ensures.value c.else-first-ge55296.either c.in-Some.ensures.fits.0 c.in-None.ensures.cases
