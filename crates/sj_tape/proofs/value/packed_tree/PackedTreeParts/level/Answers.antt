use Rattle.std.proofs.Common.{refl, sym, ap, ◌∙◌}
use Rattle.sj_text_core.specs.Nodes.{members_in}
use Rattle.sj_tape.specs.Marks.{mark, packed_marks}
use Rattle.sj_tape.specs.Parts.{items_in}
use Rattle.sj_tape.specs.inner.PackedTree.{packed_tree}
use Rattle.sj_tape.proofs.Containers.{array_behind, array_from, object_behind, object_from}
use Rattle.sj_tape.proofs.value.packed_tree.PackedTreeParts.level.Goals as goal

pub invariant_of-result : goal.invariant_of-result
invariant_of-result c = record {
  whole = (array_behind _ _ _ c.in-Array.len c.in-Array.count c.args.self.now.whole (ap packed_marks c.in-Some.ensures.cases.0) (sym c.node.ensures ∙ ap (λ n. mark n) c.in-Array.is)).are;
}

pub invariant_of-result-in-Object : goal.invariant_of-result-in-Object
invariant_of-result-in-Object c = record {
  whole = (object_behind _ _ _ c.in-Object.len c.in-Object.count c.args.self.now.whole (ap packed_marks c.in-Some.ensures.cases.0) (sym c.node.ensures ∙ ap (λ n. mark n) c.in-Object.is)).are;
}

pub returns-in-Array : goal.returns-in-Array
returns-in-Array c =
    let array = array_behind _ _ _ c.in-Array.len c.in-Array.count c.args.self.now.whole (ap packed_marks c.in-Some.ensures.cases.0) (sym c.node.ensures ∙ ap (λ n. mark n) c.in-Array.is) in
    array_from (packed_tree c.args.self.now) (items_in (packed_marks c.in-Some.behind.now)) _ refl array.items

pub returns-in-Object : goal.returns-in-Object
returns-in-Object c =
    let object = object_behind _ _ _ c.in-Object.len c.in-Object.count c.args.self.now.whole (ap packed_marks c.in-Some.ensures.cases.0) (sym c.node.ensures ∙ ap (λ n. mark n) c.in-Object.is) in
    object_from (packed_tree c.args.self.now) (members_in (packed_marks c.in-Some.behind.now)) _ refl object.members
