use Rattle.std.proofs.Common.{◌-◌, length}
use Rattle.sj_tape.proofs.Overwrites.{Written}
use Rattle.sj_tape.proofs.reader.text.read_escaped.Given as goal

abbrev pub invariant-loop-from : goal.invariant-loop-from
invariant-loop-from l = Written l.initial.rest l.rest l.from l.to

abbrev pub decreases-loop-from : goal.decreases-loop-from
decreases-loop-from l = length l.initial.rest - l.from
