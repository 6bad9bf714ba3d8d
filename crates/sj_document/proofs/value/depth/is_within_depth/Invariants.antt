use Rattle.std.proofs.Common.{◌↔◌, ◌≤◌, length}
use Rattle.sj_text_core.specs.Tree.{depth}
use Rattle.sj_document.specs.inner.Reach.{reach, ahead_left}
use Rattle.sj_document.proofs.value.depth.is_within_depth.Given as goal

abbrev pub invariant-loop-ahead : goal.invariant-loop-ahead
invariant-loop-ahead g l = record {
  within : length l.pile.items ≤ l.levels;
  same : (depth (g.P.Parts.tree_of l.value) ≤ l.levels) ↔ (reach g.P.Parts.items_left g.P.Parts.members_left l.pile.items ≤ l.levels);
}

abbrev pub decreases-loop-ahead : goal.decreases-loop-ahead
decreases-loop-ahead g l = ahead_left g.P.Parts.items_left g.P.Parts.members_left l.pile.items
