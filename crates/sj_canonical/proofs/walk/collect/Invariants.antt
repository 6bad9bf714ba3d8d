use Rattle.std.proofs.Common.{◌≡◌, ◌++◌, map, length}
use Rattle.sj_canonical.specs.inner.Picks.{AreTexts}
use Rattle.sj_canonical.specs.inner.Walks.{pair_of}
use Rattle.sj_canonical.proofs.walk.collect.Given as goal

abbrev pub invariant-loop-member : goal.invariant-loop-member
invariant-loop-member g l =
    let pairs = map (pair_of g.P.Parts.key_of g.P.Parts.tree_of) l.list.items in
    record {
      collected : pairs ++ g.P.Parts.members_left l.members ≡ g.P.Parts.members_left l.fn.members;
      texts : AreTexts pairs;
    }

abbrev pub decreases-loop-member : goal.decreases-loop-member
decreases-loop-member g l = length (g.P.Parts.members_left l.members)
