use Rattle.std.proofs.Common.{length, ◌-◌}
use Rattle.sj_commands.proofs.LineLemmas.{Passed}
use Rattle.sj_commands.proofs.lines.cut_at_mark.Given as goal

abbrev pub invariant-loop-at : goal.invariant-loop-at
invariant-loop-at l = Passed l.input l.at

abbrev pub decreases-loop-at : goal.decreases-loop-at
decreases-loop-at l = length l.input - l.at
