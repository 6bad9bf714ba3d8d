use Rattle.std.proofs.Common.{arith, drop}
use Rattle.sj_tape.proofs.Digits.{len_is, run_value, digit_at}
use Rattle.sj_tape.proofs.reader.digits.digits.Goals as goal

pub returns-clause-count : goal.returns-clause-count
returns-clause-count c = omega (arith, c.run.ensures.end, len_is (drop c.args.at c.args.bytes.now))

pub returns-clause-digits : goal.returns-clause-digits
returns-clause-digits c = λ k l m. digit_at c.args.bytes.now c.args.at c.run.result.0 k c.run.ensures.end l m

pub returns-clause-value : goal.returns-clause-value
returns-clause-value c = (run_value c.args.bytes.now c.args.at c.run.result.0 c.run.result.1 c.requires c.run.ensures.end c.run.ensures.value).0

pub returns-clause-bound : goal.returns-clause-bound
returns-clause-bound c = (run_value c.args.bytes.now c.args.at c.run.result.0 c.run.result.1 c.requires c.run.ensures.end c.run.ensures.value).1
