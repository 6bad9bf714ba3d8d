use Rattle.std.proofs.Common.{arith}
use Rattle.std.proofs.lemmas.Fmt.{IsAscii-decimal_wide}
use Rattle.std.proofs.lemmas.Str.{IsUtf8-from_ascii}
use Rattle.itoa.proofs.Decimal.{length_wide, length_step_wide}
use Rattle.sj_print.proofs.output.decimal.wide_digits.Goals as goal

pub overflow_add-count : goal.overflow_add-count
overflow_add-count c = omega (arith, c.loop-left.invariant.0, length_wide c.args.n (omega arith))

pub loop-left-preserved : goal.loop-left-preserved
loop-left-preserved c = (omega (arith, c.loop-left.invariant.0, length_step_wide c.loop-left.left (omega arith) (omega arith)), omega arith)

pub overflow_add-result : goal.overflow_add-result
overflow_add-result c = omega (arith, c.loop-left.invariant.0, c.digits.ensures.value, length_wide c.args.n (omega arith))

pub returns-clause-bound : goal.returns-clause-bound
returns-clause-bound c = omega (arith, c.loop-left.invariant.0, c.digits.ensures.value, length_wide c.args.n (omega arith))

pub returns-clause-utf8 : goal.returns-clause-utf8
returns-clause-utf8 c = IsUtf8-from_ascii _ (IsAscii-decimal_wide c.args.n (omega arith))
