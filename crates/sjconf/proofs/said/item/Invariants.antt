use Rattle.std.proofs.Common.{◌≤◌, length}
use Rattle.sjconf.proofs.said.item.Given as goal

abbrev pub invariant-loop : goal.invariant-loop
invariant-loop l = length l.rest ≤ length l.text
