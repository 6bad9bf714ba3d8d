use Rattle.std.proofs.Common.{refl}
use Rattle.sj_tape.specs.Marks.{marks}
use Rattle.sj_tape.proofs.Preorders.{begins_node, array_test, object_test}
use Rattle.sj_tape.proofs.preorder.begins_tree.Goals as goal

pub returns-in-Static : goal.returns-in-Static
returns-in-Static c = (λ _. begins_node c.args.first (marks c.args.others.now) c.in-Static.is, λ _. refl)

pub returns-in-Array : goal.returns-in-Array
returns-in-Array c =
    array_test c.in-Array.len c.in-Array.count c.args.first (marks c.args.others.now) c.items_width.result c.eq.result
    c.in-Array.is c.items_width.ensures.none c.items_width.ensures.some c.eq.ensures

pub returns-in-Object : goal.returns-in-Object
returns-in-Object c =
    object_test c.in-Object.len c.in-Object.count c.args.first (marks c.args.others.now) c.members_width.result c.eq-in-Object.result
    c.in-Object.is c.members_width.ensures.none c.members_width.ensures.some c.eq-in-Object.ensures
