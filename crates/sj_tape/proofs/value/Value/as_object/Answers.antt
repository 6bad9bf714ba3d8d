use Rattle.std.proofs.Common.{◌∙◌, ap, Some}
use Rattle.sj_tape.specs.Stretches.{nodes_in}
use Rattle.sj_tape.proofs.Containers.{object_of}
use Rattle.sj_tape.proofs.value.Value.as_object.Goals as goal

pub from_nodes-requires-clause-whole : goal.from_nodes-requires-clause-whole
from_nodes-requires-clause-whole c =
    (object_of (nodes_in c.args.self.now.nodes) _ c.in_ok-len.len c.args.self.now.whole c.in_ok-len.ensures c.from-nodes.ensures).are

pub from_nodes-requires-clause-counted : goal.from_nodes-requires-clause-counted
from_nodes-requires-clause-counted c =
    (object_of (nodes_in c.args.self.now.nodes) _ c.in_ok-len.len c.args.self.now.whole c.in_ok-len.ensures c.from-nodes.ensures).counted

pub returns-clause-members : goal.returns-clause-members
returns-clause-members c =
    ap (λ l. Some l) c.from_nodes.ensures.members
    ∙ (object_of (nodes_in c.args.self.now.nodes) _ c.in_ok-len.len c.args.self.now.whole c.in_ok-len.ensures c.from-nodes.ensures).members
