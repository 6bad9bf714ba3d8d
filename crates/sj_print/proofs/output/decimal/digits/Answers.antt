use Rattle.std.proofs.Common.{arith}
use Rattle.std.proofs.lemmas.Fmt.{length-decimal-le, IsAscii-decimal}
use Rattle.std.proofs.lemmas.Str.{IsUtf8-from_ascii}
use Rattle.itoa.proofs.Decimal.{length_four}
use Rattle.sj_print.proofs.output.decimal.digits.Goals as goal

pub overflow_add-count : goal.overflow_add-count
overflow_add-count c = omega (arith, c.loop-left.invariant.0, length-decimal-le 20 c.args.n (omega arith) (omega arith) (omega arith))

pub loop-left-preserved : goal.loop-left-preserved
loop-left-preserved c = (omega (arith, c.loop-left.invariant.0, length_four c.loop-left.left (omega arith) (omega arith)), omega arith)

pub overflow_add-result : goal.overflow_add-result
overflow_add-result c = omega (arith, c.loop-left.invariant.0, c.few_digits.ensures, length-decimal-le 20 c.args.n (omega arith) (omega arith) (omega arith))

pub returns-clause-bound : goal.returns-clause-bound
returns-clause-bound c = omega (arith, c.loop-left.invariant.0, c.few_digits.ensures, length-decimal-le 20 c.args.n (omega arith) (omega arith) (omega arith))

pub returns-clause-utf8 : goal.returns-clause-utf8
returns-clause-utf8 c = IsUtf8-from_ascii _ (IsAscii-decimal c.args.n (omega arith))
