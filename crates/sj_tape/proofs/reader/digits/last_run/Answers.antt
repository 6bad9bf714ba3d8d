use Rattle.std.proofs.Common.{◌-◌, ◌%◌, ◌^◌, ap, ◌∙◌, arith, zero-mul}
use Rattle.sj_tape.proofs.reader.digits.last_run.Goals as goal

pub returns-clause-value : goal.returns-clause-value
returns-clause-value c = c.read_digits.ensures.value ∙ ap (λ x. x % 2 ^ 64) (omega (arith, zero-mul (10 ^ (c.read_digits.result.0 - c.args.at))))
