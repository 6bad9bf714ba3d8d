use Rattle.std.proofs.Common.{rules, ◌<◌, ◌^◌, length, ap, arith}
use Rattle.std.proofs.lemmas.List.{length-map}
use Rattle.sj_text_core.specs.Nodes.{width}
use Rattle.sj_tape.specs.Marks.{packed_mark, packed_marks}
use Rattle.sj_tape.proofs.Nested.{tree_in}
use Rattle.sj_tape.proofs.landmarks.width_at.Goals as goal

pub width-requires : goal.width-requires
width-requires c =
    let tree = tree_in (packed_marks c.args.nodes.now) c.args.at c.requires.tree c.requires.at in
    let long : length c.args.nodes.now < 2 ^ 64 = search rules in
    omega (arith, tree.fits, ap width c.kept_at.ensures, length-map c.args.nodes.now packed_mark, long)

pub returns-clause-some : goal.returns-clause-some
returns-clause-some c =
    let tree = tree_in (packed_marks c.args.nodes.now) c.args.at c.requires.tree c.requires.at in
    omega (arith, tree.wide, c.width.ensures, ap width c.kept_at.ensures)

pub returns-clause-within : goal.returns-clause-within
returns-clause-within c =
    let tree = tree_in (packed_marks c.args.nodes.now) c.args.at c.requires.tree c.requires.at in
    omega (arith, tree.fits, c.width.ensures, ap width c.kept_at.ensures)
