use Rattle.std.proofs.Common.{◌∙◌, arith, ap}
use Rattle.std.specs.Int.Digits.{number_from_digits}
use Rattle.sj_tape.proofs.Sixteens.{long_run_is}
use Rattle.sj_tape.proofs.reader.digits.long_run.Goals as goal

pub returns-clause-end : goal.returns-clause-end
returns-clause-end c = omega (arith, c.read_digits.ensures.end, c.requires.long)

pub returns-clause-value : goal.returns-clause-value
returns-clause-value c =
    long_run_is c.args.bytes.now c.args.at c.read_digits.result.0 _ c.read_digits.result.1 c.requires.room c.requires.long c.read_digits.ensures.end
    (c.number.ensures ∙ ap (number_from_digits 10) c.lanes_at.ensures) c.read_digits.ensures.value
