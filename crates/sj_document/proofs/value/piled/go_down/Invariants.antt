use Rattle.std.proofs.Common.{◌≡◌, ◌≤◌, ◌+◌, ◌*◌}
use Rattle.sj_print.specs.inner.Piles.{weight}
use Rattle.sj_document.specs.inner.Piled.{whole_of, waiting_left}
use Rattle.sj_document.proofs.value.piled.go_down.Given as goal

abbrev pub invariant-loop-part : goal.invariant-loop-part
invariant-loop-part g l =
    let t = g.T.KeyText.text_of in
    let items = g.S.Source.items_left in
    let members = g.S.Source.members_left in
    record {
      same : whole_of t items members l.pile.items (g.S.Source.tree_of l.at) ≡ whole_of t items members l.fn.pile.items (g.S.Source.tree_of l.fn.source);
      less : 2 * weight (g.S.Source.tree_of l.at) + 2 * waiting_left t items members l.pile.items ≤ 2 * weight (g.S.Source.tree_of l.fn.source) + 2 * waiting_left t items members l.fn.pile.items;
    }

abbrev pub decreases-loop-part : goal.decreases-loop-part
decreases-loop-part g l = 2 * weight (g.S.Source.tree_of l.at) + 2 * waiting_left g.T.KeyText.text_of g.S.Source.items_left g.S.Source.members_left l.pile.items
