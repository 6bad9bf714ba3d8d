use Rattle.std.proofs.Common.{◌≡◌, ◌+◌, ◌-◌, take, drop, sym, ap, ◌∙◌, arith}
use Rattle.sj_text_core.specs.Find.{find_member}
use Rattle.sj_text_core.specs.Repeats.{visited}
use Rattle.sj_tape.specs.inner.Ahead.{members_at}
use Rattle.sj_tape.specs.Marks.{packed_marks}
use Rattle.sj_tape.specs.inner.Tags.{member_node, has_tag}
use Rattle.sj_tape.proofs.Tagged.{pass_some}
use Rattle.sj_tape.proofs.Tagged.{Passes}
use Rattle.sj_tape.proofs.search.tagged.first_in_block.Given.{Over}
use Rattle.sj_tape.proofs.search.tagged.first_in_block.Goals as goal

passes : (g : Over) (c : goal.Then-not-is_among g) → Passes (packed_marks c.args.nodes.now) c.args.key.now c.args.from (c.args.from + (c.args.next - c.args.from))
passes g c =
    let kept = c.args.kept.now in
    let from = c.args.from in
    let none = ap (λ t. has_tag t (take (c.args.next - from) (drop from kept.tags.items))) (sym c.requires.tag) ∙ ap (λ ts. has_tag c.args.tag (take (c.args.next - from) (drop from ts))) (sym c.deref.ensures.value) ∙ sym c.is_among.ensures ∙ c.if-not-is_among.true in
    pass_some (packed_marks c.args.nodes.now) c.args.key.now kept.tags.items c.requires.are c.requires.tagged.some c.requires.tagged.tags (c.args.next - from) from (omega (arith, c.requires.order, c.requires.within)) none

pub returns-then-not-is_among-clause-passed : goal.returns-then-not-is_among-clause-passed
returns-then-not-is_among-clause-passed g c =
    let ns = packed_marks c.args.nodes.now in
    let k = c.args.key.now in
    let end : c.args.next ≡ c.args.from + (c.args.next - c.args.from) = omega (arith, c.requires.order) in
    ap (λ i. find_member k (members_at ns (member_node ns i))) end ∙ (passes g c).found ∙ ap (λ p. find_member k (members_at ns p)) (sym c.requires.at)

pub returns-then-not-is_among-clause-passed_most : goal.returns-then-not-is_among-clause-passed_most
returns-then-not-is_among-clause-passed_most g c =
    let ns = packed_marks c.args.nodes.now in
    let k = c.args.key.now in
    let end : c.args.next ≡ c.args.from + (c.args.next - c.args.from) = omega (arith, c.requires.order) in
    omega (arith, ap (λ i. visited k (members_at ns (member_node ns i))) end, (passes g c).fewer, ap (λ p. visited k (members_at ns p)) c.requires.at)
