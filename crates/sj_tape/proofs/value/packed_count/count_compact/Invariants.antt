use Rattle.std.proofs.Common.{◌≡◌, ◌+◌, ◌^◌, ◌≤◌, take}
use Rattle.sj_print.specs.inner.Printed.{marks_len}
use Rattle.sj_tape.specs.Marks.{packed_marks}
use Rattle.sj_tape.proofs.value.packed_count.count_compact.Given as goal

abbrev pub invariant-loop-node : goal.invariant-loop-node
invariant-loop-node l = (l.end ≡ l.fn.before + marks_len (take l.node-index (packed_marks l.nodes))) × (l.end + 1 ≤ 2 ^ 64)
