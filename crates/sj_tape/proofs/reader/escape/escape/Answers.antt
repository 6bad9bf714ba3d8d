use Rattle.std.proofs.Common.{arith, ◌≡◌, ◌+◌, ◌-◌}
use Rattle.sj_tape.proofs.Units.{escape_by_code, escape_by_code_err, escape_short, escape_no}
use Rattle.sj_tape.proofs.reader.escape.escape.Goals as goal

pub returns-then-byte-eq117-clause-ok : goal.returns-then-byte-eq117-clause-ok
returns-then-byte-eq117-clause-ok c = escape_by_code c.args.bytes.now c.args.at c.code.result c.if-byte-eq117.true c.code.ensures.within c.code.ensures.ok

pub returns-then-byte-eq117-clause-err : goal.returns-then-byte-eq117-clause-err
returns-then-byte-eq117-clause-err c = escape_by_code_err c.args.bytes.now c.args.at c.code.result c.if-byte-eq117.true c.code.ensures.err

pub returns-in-Some-clause-ok : goal.returns-in-Some-clause-ok
returns-in-Some-clause-ok c =
    let n : c.args.at + 1 - c.args.at ≡ 1 = omega arith in
    rw c.from.ensures (escape_short c.args.bytes.now c.args.at c.in-Some.character _ c.if-byte-eq117.false c.in-Some.ensures n)

pub returns-in-None-clause-err : goal.returns-in-None-clause-err
returns-in-None-clause-err c = escape_no c.args.bytes.now c.args.at c.if-byte-eq117.false c.in-None.ensures
