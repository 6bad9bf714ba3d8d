use Rattle.std.proofs.Common.{rules, ◌<◌, ◌^◌, length, refl, ap, arith}
use Rattle.std.proofs.lemmas.List.{length-map}
use Rattle.sj_text_core.specs.Nodes.{width}
use Rattle.sj_tape.specs.Marks.{packed_mark, packed_marks}
use Rattle.sj_tape.proofs.Splits.{tree_at}
use Rattle.sj_tape.proofs.object.Object.value_at.Goals as goal

pub kept_at-requires : goal.kept_at-requires
kept_at-requires c κs = ((refl, (refl, tt)), (tree_at c.args.place (packed_marks c.args.nodes.now) c.requires.begins).some)

pub width-width-requires : goal.width-width-requires
width-width-requires c =
    let there = tree_at c.args.place (packed_marks c.args.nodes.now) c.requires.begins in
    let long : length c.args.nodes.now < 2 ^ 64 = search rules in
    omega (arith, there.fits, ap width c.kept_at.ensures, length-map c.args.nodes.now packed_mark, long)
