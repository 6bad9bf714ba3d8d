use Rattle.std.proofs.Common.{◌∙◌, arith, sym, subst}
use Rattle.sj_tape.specs.inner.Fronts.{BeginsTree}
use Rattle.sj_tape.specs.Items.{items}
use Rattle.sj_tape.specs.Stretches.{nodes_in}
use Rattle.sj_tape.proofs.ItemPlaces.{item_there, no_item}
use Rattle.sj_tape.proofs.array.Array.get.Goals as goal

pub returns-then-index-self-clause-value : goal.returns-then-index-self-clause-value
returns-then-index-self-clause-value c =
    let a = c.args.self.now in
    sym (no_item (items a) c.args.index (omega (arith, c.if-index-self.true, a.counted)))

pub take-requires : goal.take-requires
take-requires c =
    let a = c.args.self.now in
    let there = item_there (nodes_in a.nodes) c.args.index c.node_index.result c.node_index.ensures (omega (arith, c.if-index-self.false, a.counted)) in
    subst BeginsTree (sym c.from-behind.ensures) there.begins

pub returns-clause-value : goal.returns-clause-value
returns-clause-value c =
    let a = c.args.self.now in
    let there = item_there (nodes_in a.nodes) c.args.index c.node_index.result c.node_index.ensures (omega (arith, c.if-index-self.false, a.counted)) in
    sym (there.item (nodes_in c.take.result.nodes) (nodes_in c.take.new.nodes) c.take.result.whole (sym c.from-behind.ensures ∙ c.take.ensures.all))
