use Rattle.sj_tape.specs.Value.{tape_tree}
use Rattle.sj_tape.proofs.Compared.{scalar_is}
use Rattle.sj_tape.proofs.value.cmp.same_leaves.Goals as goal

pub returns-in-Some-as_static : goal.returns-in-Some-as_static
returns-in-Some-as_static c =
    let e = scalar_is (tape_tree c.args.left) _ c.in-Some.ensures in
    let f = scalar_is (tape_tree c.args.right) _ c.in-Some-as_static.ensures in
    rw (e, f) c.eq.ensures.same
