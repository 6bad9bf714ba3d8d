use Rattle.std.proofs.Common.{◌≡◌}
use Rattle.std.specs.Prelude.{IfNone}
use Rattle.sj_document.specs.inner.Nodes.{nodes, nodes_of, work}
use Rattle.sj_document.proofs.value.drops.let_go.Given as goal

abbrev pub invariant-loop-next : goal.invariant-loop-next
invariant-loop-next g l = IfNone l.next (nodes l.whole ≡ 1)

abbrev pub decreases-loop-next : goal.decreases-loop-next
decreases-loop-next g l = work (nodes l.whole) (nodes_of l.next)
