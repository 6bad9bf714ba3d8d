use Rattle.std.proofs.Common.{ap, arith}
use Rattle.sj_document.specs.inner.Nodes.{nodes, nodes_of}
use Rattle.sj_document.proofs.Nodes.{falls, some_nodes}
use Rattle.sj_document.proofs.value.drops.drop_or_open.Goals as goal

pub returns-then-not-has_parts-clause-less : goal.returns-then-not-has_parts-clause-less
returns-then-not-has_parts-clause-less g c = falls (nodes c.args.whole.now) (nodes c.args.part) (nodes c.pop_part.new.self) (nodes_of c.pop_part.result) (omega (arith, c.pop_part.ensures.fewer, some_nodes c.args.part))

pub returns-then-not-has_parts-2-clause-less : goal.returns-then-not-has_parts-2-clause-less
returns-then-not-has_parts-2-clause-less g c = falls (nodes c.args.whole.now) (nodes c.args.part) (nodes c.pop_part-then-not-has_parts-2.new.self) (nodes_of c.pop_part-then-not-has_parts-2.result) (omega (arith, c.pop_part-then-not-has_parts-2.ensures.fewer, some_nodes c.args.whole.now, ap nodes c.replace-parent.ensures.after))
