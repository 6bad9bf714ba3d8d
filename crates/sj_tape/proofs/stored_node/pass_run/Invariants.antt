use Rattle.std.specs.Prelude.{map}
use Rattle.sj_tape.specs.inner.Parts.{ItemsFrom}
use Rattle.sj_tape.proofs.stored_node.pass_run.Given as goal

abbrev pub invariant-loop-count : goal.invariant-loop-count
invariant-loop-count g l = ItemsFrom (map g.N.StoredNode.mark_of l.nodes) l.count l.at
