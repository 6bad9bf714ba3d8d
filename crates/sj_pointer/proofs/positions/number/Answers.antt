use Rattle.std.proofs.Common.{◌∙◌, arith}
use Rattle.sj_pointer.proofs.Numbers.{past, all_read}
use Rattle.sj_pointer.proofs.positions.number.Goals as goal

pub returns-in_err-checked_mul : goal.returns-in_err-checked_mul
returns-in_err-checked_mul c =
    c.from_residual.ensures ∙ past c.args.digits.now c.loop-digit.digit-index c.loop-digit.value (omega arith) c.loop-digit.invariant.value (omega (arith, c.in_err-checked_mul.ensures))

pub returns-in_err-value : goal.returns-in_err-value
returns-in_err-value c =
    c.from_residual-in_err-value.ensures ∙ past c.args.digits.now c.loop-digit.digit-index c.loop-digit.value (omega arith) c.loop-digit.invariant.value (omega (arith, c.in_err-value.ensures, c.in_ok-checked_mul.ensures, c.from.ensures))

pub returns : goal.returns
returns c = all_read c.args.digits.now c.loop-digit.digit-index c.loop-digit.value (omega arith) c.loop-digit.invariant.digits c.loop-digit.invariant.value c.loop-digit.invariant.fits
