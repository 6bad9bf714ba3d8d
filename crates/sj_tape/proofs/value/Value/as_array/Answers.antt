use Rattle.std.proofs.Common.{◌∙◌, ap, Some}
use Rattle.sj_tape.specs.Stretches.{nodes_in}
use Rattle.sj_tape.proofs.Containers.{array_of}
use Rattle.sj_tape.proofs.value.Value.as_array.Goals as goal

pub from_nodes-requires-clause-whole : goal.from_nodes-requires-clause-whole
from_nodes-requires-clause-whole c =
    (array_of (nodes_in c.args.self.now.nodes) _ c.in_ok-len.len c.args.self.now.whole c.in_ok-len.ensures c.from-nodes.ensures).are

pub from_nodes-requires-clause-counted : goal.from_nodes-requires-clause-counted
from_nodes-requires-clause-counted c =
    (array_of (nodes_in c.args.self.now.nodes) _ c.in_ok-len.len c.args.self.now.whole c.in_ok-len.ensures c.from-nodes.ensures).counted

pub returns-clause-items : goal.returns-clause-items
returns-clause-items c =
    ap (λ l. Some l) c.from_nodes.ensures.items
    ∙ (array_of (nodes_in c.args.self.now.nodes) _ c.in_ok-len.len c.args.self.now.whole c.in_ok-len.ensures c.from-nodes.ensures).items
