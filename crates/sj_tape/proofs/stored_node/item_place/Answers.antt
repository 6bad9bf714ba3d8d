use Rattle.std.proofs.Common.{◌≡◌, map, arith, subst}
use Rattle.sj_tape.specs.inner.Parts.{ItemsFrom}
use Rattle.sj_tape.proofs.stored_node.item_place.Goals as goal

pub returns : goal.returns
returns g c =
    let all : c.loop-passed.passed ≡ c.args.position = omega (arith, c.loop-passed-test.false, c.loop-passed.invariant.within) in
    subst (λ i. ItemsFrom (map g.N.StoredNode.mark_of c.args.nodes.now) i c.loop-passed.place) all c.loop-passed.invariant.from
