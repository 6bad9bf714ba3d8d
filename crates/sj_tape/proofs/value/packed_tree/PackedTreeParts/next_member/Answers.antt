use Rattle.std.proofs.Common.{ap}
use Rattle.sj_text_core.specs.Tree.{paired}
use Rattle.sj_tape.specs.Marks.{packed_marks}
use Rattle.sj_tape.specs.inner.PackedKey.{packed_key}
use Rattle.sj_tape.proofs.Splits.{next_member, split_text-are, BeginsTree-member}
use Rattle.sj_tape.proofs.value.packed_tree.PackedTreeParts.next_member.Goals as goal

pub split_packed-requires : goal.split_packed-requires
split_packed-requires c =
    BeginsTree-member _ _ _ c.args.members.now.whole (split_text-are _ (packed_marks c.in_ok-key.values.now) (packed_key c.in_ok-key.key) c.in_ok-key.ensures)

pub invariant_of-members : goal.invariant_of-members
invariant_of-members c =
    let nodes = split_text-are _ (packed_marks c.in_ok-key.values.now) (packed_key c.in_ok-key.key) c.in_ok-key.ensures in
    record { whole = (next_member _ _ _ _ _ c.args.members.now.whole nodes c.split_packed.ensures.whole c.split_packed.ensures.all).rest_are }

pub returns : goal.returns
returns c =
    let nodes = split_text-are _ (packed_marks c.in_ok-key.values.now) (packed_key c.in_ok-key.key) c.in_ok-key.ensures in
    ap (λ ms. paired ms) (next_member _ _ _ _ _ c.args.members.now.whole nodes c.split_packed.ensures.whole c.split_packed.ensures.all).members
