use Rattle.std.proofs.Common.{◌≡◌}
use Rattle.sj_document.specs.Document.{document_tree}
use Rattle.sj_document.specs.inner.Piled.{whole_of, waiting_left}
use Rattle.sj_document.proofs.value.piled.make_piled.Given as goal

abbrev pub invariant-loop-waiting : goal.invariant-loop-waiting
invariant-loop-waiting g l =
    let t = g.T.KeyText.text_of in
    whole_of t g.S.Source.items_left g.S.Source.members_left l.pile.items (document_tree t l.made) ≡ g.S.Source.tree_of l.fn.source

abbrev pub decreases-loop-waiting : goal.decreases-loop-waiting
decreases-loop-waiting g l = waiting_left g.T.KeyText.text_of g.S.Source.items_left g.S.Source.members_left l.pile.items
