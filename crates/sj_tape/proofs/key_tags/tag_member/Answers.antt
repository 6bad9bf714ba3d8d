use Rattle.std.proofs.Common.{rules, ◌≡◌, ◌+◌, ◌<◌, ◌^◌, ◌++◌, ◌∷◌, [], get_or, length, sym, ap, ◌∙◌, subst, arith, length-append}
use Rattle.std.proofs.lemmas.List.{length-map}
use Rattle.sj_text_core.specs.Nodes.{nothing, width}
use Rattle.sj_tape.specs.Marks.{packed_mark, packed_marks}
use Rattle.sj_tape.specs.inner.Tags.{MembersFrom}
use Rattle.sj_tape.proofs.MemberPlaces.{next_member_place, tagged_with}
use Rattle.sj_tape.proofs.key_tags.tag_member.Goals as goal

pub tag_at-requires : goal.tag_at-requires
tag_at-requires c = let next = next_member_place (packed_marks c.args.nodes.now) _ c.args.place c.requires.from c.requires.more in omega (arith, next.behind)

pub overflow_add-result-2 : goal.overflow_add-result-2
overflow_add-result-2 c =
    let next = next_member_place (packed_marks c.args.nodes.now) _ c.args.place c.requires.from c.requires.more in
    let long : length c.args.nodes.now < 2 ^ 64 = search rules in
    let few : c.args.place + 1 + c.args.width < 2 ^ 64 = omega (arith, next.fits, c.requires.wide, length-map c.args.nodes.now packed_mark, long) in
    search (rules, few)

pub returns-clause-from : goal.returns-clause-from
returns-clause-from c =
    let next = next_member_place (packed_marks c.args.nodes.now) _ c.args.place c.requires.from c.requires.more in
    let pushed : c.push.new.self.items ≡ c.args.tags.now.items ++ c.tag_at.result ∷ [] = search rules in
    let long : length c.push.new.self.items ≡ length c.args.tags.now.items + 1 = ap length pushed ∙ length-append c.args.tags.now.items (c.tag_at.result ∷ []) in
    subst (λ w. MembersFrom (packed_marks c.args.nodes.now) (length c.push.new.self.items) (c.args.place + 1 + w)) (sym c.requires.wide)
    (subst (λ k. MembersFrom (packed_marks c.args.nodes.now) k (c.args.place + 1 + width (get_or (packed_marks c.args.nodes.now) (c.args.place + 1) nothing))) (sym long) next.next)

pub returns-clause-tagged : goal.returns-clause-tagged
returns-clause-tagged c =
    let pushed : c.push.new.self.items ≡ c.args.tags.now.items ++ c.tag_at.result ∷ [] = search rules in
    tagged_with (packed_marks c.args.nodes.now) c.args.tags.now.items c.push.new.self.items c.args.place c.tag_at.result c.requires.are c.requires.from c.requires.more pushed c.tag_at.ensures c.requires.tagged
