use Rattle.std.proofs.Common.{rules, ◌<◌, ◌^◌, length, ap, arith}
use Rattle.std.proofs.lemmas.List.{length-map}
use Rattle.sj_text_core.specs.Nodes.{width}
use Rattle.sj_tape.specs.Marks.{packed_mark, packed_marks}
use Rattle.sj_tape.proofs.Ahead.{next_ahead}
use Rattle.sj_tape.proofs.search.places.value_width.Goals as goal

pub width-requires : goal.width-requires
width-requires c =
    let next = next_ahead (packed_marks c.args.nodes.now) c.args.place c.requires.ahead c.requires.more in
    let long : length c.args.nodes.now < 2 ^ 64 = search rules in
    omega (arith, next.fits, ap width c.kept_at.ensures, length-map c.args.nodes.now packed_mark, long)
