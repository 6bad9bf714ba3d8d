use Rattle.std.proofs.Common.{◌≤◌, length}
use Rattle.sjval.proofs.input.read_input.Given as goal

abbrev pub invariant-loop : goal.invariant-loop
invariant-loop g l = l.filled ≤ length l.bytes.items
