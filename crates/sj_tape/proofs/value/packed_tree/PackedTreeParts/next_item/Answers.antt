use Rattle.std.proofs.Common.{ap}
use Rattle.sj_text_core.specs.Tree.{listed}
use Rattle.sj_tape.specs.Marks.{packed_marks}
use Rattle.sj_tape.proofs.PackedSplits.{some_packed}
use Rattle.sj_tape.proofs.Splits.{next_item, BeginsTree-items}
use Rattle.sj_tape.proofs.value.packed_tree.PackedTreeParts.next_item.Goals as goal

pub split_packed-requires : goal.split_packed-requires
split_packed-requires c =
    let ps = c.args.items.now.nodes.now in
    BeginsTree-items (packed_marks ps) c.args.items.now.whole (some_packed ps _ c.is_empty.ensures c.if-is_empty.false)

pub invariant_of-items : goal.invariant_of-items
invariant_of-items c =
    let some = some_packed c.args.items.now.nodes.now _ c.is_empty.ensures c.if-is_empty.false in
    record { whole = (next_item _ _ _ c.args.items.now.whole some c.split_packed.ensures.whole c.split_packed.ensures.all).rest_are }

pub returns : goal.returns
returns c =
    let some = some_packed c.args.items.now.nodes.now _ c.is_empty.ensures c.if-is_empty.false in
    ap (λ is. listed is) (next_item _ _ _ c.args.items.now.whole some c.split_packed.ensures.whole c.split_packed.ensures.all).items
