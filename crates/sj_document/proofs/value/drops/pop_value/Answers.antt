use Rattle.std.proofs.Common.{ap}
use Rattle.sj_document.specs.inner.Nodes.{entry_nodes}
use Rattle.sj_document.proofs.Nodes.{members_popped, members_rest}
use Rattle.sj_document.proofs.value.drops.pop_value.Goals as goal

pub returns-in-Some-clause-fewer : goal.returns-in-Some-clause-fewer
returns-in-Some-clause-fewer g c =
    members_popped g.T.KeyText.text_of c.args.members.now.entries c.pop.new.self.entries (c.in-Some.field-0-0, c.in-Some.value) c.in-Some.ensures.entries

pub returns-clause-fewer : goal.returns-clause-fewer
returns-clause-fewer g c =
    members_rest c.args.members.now.entries c.pop.new.self.entries c.in-None.ensures.entries

pub returns-clause-none : goal.returns-clause-none
returns-clause-none g c = ap entry_nodes c.in-None.ensures.none
