use Rattle.std.proofs.Common.{rules, ◌≡◌, Some, ◌+◌, ◌<◌, ◌^◌, length, refl, sym, ap, subst, ◌∙◌, arith}
use Rattle.std.proofs.lemmas.List.{length-map}
use Rattle.sj_text_core.specs.Nodes.{width}
use Rattle.sj_text_core.specs.Tree.{items_len}
use Rattle.sj_tape.specs.Marks.{packed_mark, packed_marks}
use Rattle.sj_tape.specs.inner.Marks.{array_len}
use Rattle.sj_tape.specs.Parts.{items_in}
use Rattle.sj_tape.specs.inner.Parts.{AreItemNodes}
use Rattle.sj_tape.proofs.Nested.{tree_in, array_there}
use Rattle.sj_tape.proofs.item_places.array_at.Goals as goal

pub width-requires : goal.width-requires
width-requires c =
    let tree = tree_in (packed_marks c.args.nodes.now) c.args.at c.requires.tree c.requires.at in
    let long : length c.args.nodes.now < 2 ^ 64 = search rules in
    omega (arith, tree.fits, ap width c.kept_at-node.ensures, length-map c.args.nodes.now packed_mark, long)

pub overflow_add-end : goal.overflow_add-end
overflow_add-end c =
    let tree = tree_in (packed_marks c.args.nodes.now) c.args.at c.requires.tree c.requires.at in
    let long : length c.args.nodes.now < 2 ^ 64 = search rules in
    let few : c.args.at + c.width.result < 2 ^ 64 = omega (arith, tree.fits, c.width.ensures, ap width c.kept_at-node.ensures, length-map c.args.nodes.now packed_mark, long) in
    search (rules, few)

pub between-requires : goal.between-requires
between-requires c κs =
    let tree = tree_in (packed_marks c.args.nodes.now) c.args.at c.requires.tree c.requires.at in
    let same = ap width c.kept_at-node.ensures in
    ((refl, (refl, tt)), (omega (arith, tree.wide, c.width.ensures, same), omega (arith, tree.fits, c.width.ensures, same)))

pub places_of-requires : goal.places_of-requires
places_of-requires c κs =
    let ns = packed_marks c.args.nodes.now in
    let tree = tree_in ns c.args.at c.requires.tree c.requires.at in
    let wide = c.width.ensures ∙ ap width c.kept_at-node.ensures in
    let len : Some c.in_ok-len.len ≡ array_len (packed_mark c.kept_at-node.result.now) = c.in_ok-len.ensures in
    let there = array_there ns c.args.at c.width.result c.in_ok-len.len tree wide (len ∙ ap array_len c.kept_at-node.ensures) in
    let part = sym c.between.ensures in
    let few : length c.between.result.now < 2 ^ 64 = search rules in
    ((refl, tt), (subst AreItemNodes part there.are, (there.counted ∙ ap (λ l. items_len (items_in l)) part, few)))
