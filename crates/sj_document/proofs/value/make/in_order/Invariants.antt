use Rattle.std.proofs.Common.{◌≡◌, ◌++◌}
use Rattle.sj_document.proofs.value.make.in_order.Given as goal

abbrev pub invariant-loop-pair : goal.invariant-loop-pair
invariant-loop-pair g l = l.pairs.items ++ l.pair-iterator ≡ l.fn.map.entries
