use Rattle.std.proofs.Common.{◌≡◌, length}
use Rattle.sj_lines.specs.Ahead.{ahead}
use Rattle.sj_lines.proofs.lines.LinesIterator.next.Given as goal

abbrev pub invariant-loop-self : goal.invariant-loop-self
invariant-loop-self l = ahead l.initial.self ≡ ahead l.self

abbrev pub decreases-loop-self : goal.decreases-loop-self
decreases-loop-self l = length l.self.rest.now
