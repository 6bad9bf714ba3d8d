use Rattle.std.proofs.Common.{rules, ◌≡◌, Some, ◌+◌, ◌<◌, ◌^◌, length, refl, sym, ap, subst, ◌∙◌, arith}
use Rattle.std.proofs.lemmas.List.{length-map}
use Rattle.sj_text_core.specs.Nodes.{members_in, width}
use Rattle.sj_text_core.specs.inner.Nodes.{AreMembers}
use Rattle.sj_text_core.specs.Tree.{members_len}
use Rattle.sj_tape.specs.Marks.{packed_mark, packed_marks}
use Rattle.sj_tape.specs.inner.Marks.{object_len}
use Rattle.sj_tape.proofs.Nested.{tree_in, object_there}
use Rattle.sj_tape.proofs.key_tags.object_at.Goals as goal

pub width-requires : goal.width-requires
width-requires c =
    let tree = tree_in (packed_marks c.args.nodes.now) c.args.at c.requires.tree c.requires.at in
    let long : length c.args.nodes.now < 2 ^ 64 = search rules in
    omega (arith, tree.fits, ap width c.kept_at-node.ensures, length-map c.args.nodes.now packed_mark, long)

pub overflow_add-end : goal.overflow_add-end
overflow_add-end c =
    let tree = tree_in (packed_marks c.args.nodes.now) c.args.at c.requires.tree c.requires.at in
    let long : length c.args.nodes.now < 2 ^ 64 = search rules in
    let few : c.args.at + c.width.result < 2 ^ 64 = omega (arith, tree.fits, c.width.ensures, ap width c.kept_at-node.ensures, length-map c.args.nodes.now packed_mark, long) in
    search (rules, few)

pub between-requires : goal.between-requires
between-requires c κs =
    let tree = tree_in (packed_marks c.args.nodes.now) c.args.at c.requires.tree c.requires.at in
    let same = ap width c.kept_at-node.ensures in
    ((refl, (refl, tt)), (omega (arith, tree.wide, c.width.ensures, same), omega (arith, tree.fits, c.width.ensures, same)))

pub tags_between-requires-clause-are : goal.tags_between-requires-clause-are
tags_between-requires-clause-are c =
    let ns = packed_marks c.args.nodes.now in
    let tree = tree_in ns c.args.at c.requires.tree c.requires.at in
    let wide = c.width.ensures ∙ ap width c.kept_at-node.ensures in
    let len : Some c.in_ok-len.len ≡ object_len (packed_mark c.kept_at-node.result.now) = c.in_ok-len.ensures in
    let there = object_there ns c.args.at c.width.result c.in_ok-len.len tree wide (len ∙ ap object_len c.kept_at-node.ensures) in
    subst AreMembers (sym c.between.ensures) there.are

pub tags_between-requires-clause-counted : goal.tags_between-requires-clause-counted
tags_between-requires-clause-counted c =
    let ns = packed_marks c.args.nodes.now in
    let tree = tree_in ns c.args.at c.requires.tree c.requires.at in
    let wide = c.width.ensures ∙ ap width c.kept_at-node.ensures in
    let len : Some c.in_ok-len.len ≡ object_len (packed_mark c.kept_at-node.result.now) = c.in_ok-len.ensures in
    let there = object_there ns c.args.at c.width.result c.in_ok-len.len tree wide (len ∙ ap object_len c.kept_at-node.ensures) in
    there.counted ∙ ap (λ l. members_len (members_in l)) (sym c.between.ensures)
