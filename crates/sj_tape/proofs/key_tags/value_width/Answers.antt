use Rattle.std.proofs.Common.{rules, ◌+◌, ◌<◌, ◌^◌, length, refl, ap, arith}
use Rattle.std.proofs.lemmas.List.{length-map}
use Rattle.sj_text_core.specs.Nodes.{width}
use Rattle.sj_tape.specs.Marks.{packed_mark, packed_marks}
use Rattle.sj_tape.proofs.MemberPlaces.{next_member_place}
use Rattle.sj_tape.proofs.key_tags.value_width.Goals as goal

pub overflow_add-place : goal.overflow_add-place
overflow_add-place c =
    let next = next_member_place (packed_marks c.args.nodes.now) c.args.position c.args.place c.requires.from c.requires.more in
    let long : length c.args.nodes.now < 2 ^ 64 = search rules in
    let few : c.args.place + 1 < 2 ^ 64 = omega (arith, next.behind, length-map c.args.nodes.now packed_mark, long) in
    search (rules, few)

pub kept_at-requires : goal.kept_at-requires
kept_at-requires c κs = ((refl, (refl, tt)), (next_member_place (packed_marks c.args.nodes.now) c.args.position c.args.place c.requires.from c.requires.more).behind)

pub width-requires : goal.width-requires
width-requires c =
    let next = next_member_place (packed_marks c.args.nodes.now) c.args.position c.args.place c.requires.from c.requires.more in
    let long : length c.args.nodes.now < 2 ^ 64 = search rules in
    omega (arith, next.fits, ap width c.kept_at.ensures, length-map c.args.nodes.now packed_mark, long)
