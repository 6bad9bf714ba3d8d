use Rattle.std.proofs.Common.{◌≡◌, ◌+◌, ◌≤◌, length}
use Rattle.sj_lines.specs.Lines.{full_lines}
use Rattle.sj_lines.proofs.count.line_count.Given as goal

abbrev pub invariant-loop-rest : goal.invariant-loop-rest
invariant-loop-rest l = record {
  within : l.count + length l.rest ≤ length l.bytes;
  lines : l.count + length (full_lines l.rest) ≡ length (full_lines l.bytes);
}

abbrev pub decreases-loop-rest : goal.decreases-loop-rest
decreases-loop-rest l = length l.rest
