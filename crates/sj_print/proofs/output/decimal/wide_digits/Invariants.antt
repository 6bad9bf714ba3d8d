use Rattle.std.proofs.Common.{◌≡◌, ◌+◌, ◌≤◌, length}
use Rattle.std.specs.Fmt.{decimal}
use Rattle.sj_print.proofs.output.decimal.wide_digits.Given as goal

abbrev pub invariant-loop-left : goal.invariant-loop-left
invariant-loop-left l = (length (decimal l.n) ≡ l.count + length (decimal l.left)) × (l.left ≤ l.n)

abbrev pub decreases-loop-left : goal.decreases-loop-left
decreases-loop-left l = l.left
