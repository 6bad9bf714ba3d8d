use Rattle.std.proofs.Common.{◌≡◌, ◌≤◌, drop, length, All}
use Rattle.sj_tape.specs.Stretches.{nodes_in}
use Rattle.sj_object.specs.inner.Piles.{pile}
use Rattle.sj_object.proofs.Piles.{ahead}
use Rattle.sj_object.proofs.build.build.Given as goal

abbrev pub invariant-loop-at : goal.invariant-loop-at
invariant-loop-at g l =
    record {
      within : l.at ≤ length (nodes_in l.nodes);
      read : pile g.V.Made.tree l.made.items ≡ ahead l.repeats (drop l.at (nodes_in l.nodes));
      made : All g.V.Made.built l.made.items;
    }

abbrev pub decreases-loop-at : goal.decreases-loop-at
decreases-loop-at g l = l.at
