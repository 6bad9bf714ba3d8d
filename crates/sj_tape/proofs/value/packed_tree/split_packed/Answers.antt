use Rattle.std.proofs.Common.{◌∙◌, take, ap, sym, subst, arith}
use Rattle.sj_text_core.specs.Nodes.{IsPreorder}
use Rattle.sj_tape.specs.Marks.{packed_marks}
use Rattle.sj_tape.proofs.PackedSplits.{begins_some, packed_first}
use Rattle.sj_tape.proofs.value.packed_tree.split_packed.Goals as goal

pub bounds-nodes-0 : goal.bounds-nodes-0
bounds-nodes-0 c = begins_some c.args.nodes.now c.requires

pub width-requires : goal.width-requires
width-requires c = omega (arith, (packed_first c.args.nodes.now _ c.index-nodes-0.is c.requires).fits)

pub split_at-requires : goal.split_at-requires
split_at-requires c = omega (arith, (packed_first c.args.nodes.now _ c.index-nodes-0.is c.requires).fits, c.width.ensures)

pub returns-clause-whole : goal.returns-clause-whole
returns-clause-whole c =
    let front = c.split_at.ensures.front ∙ ap (λ n. take n c.args.nodes.now) c.width.ensures in
    subst (λ ps. IsPreorder (packed_marks ps)) (sym front) (packed_first c.args.nodes.now _ c.index-nodes-0.is c.requires).whole
