use Rattle.std.proofs.Common.{rules, ◌≡◌, ◌+◌, ◌<◌, ◌^◌, map, arith, sym, subst}
use Rattle.std.proofs.lemmas.List.{length-map}
use Rattle.sj_text_core.specs.Nodes.{width}
use Rattle.sj_tape.specs.inner.Parts.{ItemsFrom}
use Rattle.sj_tape.proofs.ItemPlaces.{next_place, next_node}
use Rattle.sj_tape.proofs.stored_node.pass_run.Goals as goal

pub bounds-nodes-place : goal.bounds-nodes-place
bounds-nodes-place g c =
    let f = g.N.StoredNode.mark_of in
    omega (arith, (next_place (map f c.args.nodes.now) c.args.passed c.args.place c.args.position c.requires.from c.requires.more c.requires.some).inside, length-map c.args.nodes.now f)

pub width-width-requires : goal.width-width-requires
width-width-requires g c κs =
    let next = next_node g.N.StoredNode.mark_of c.args.nodes.now c.args.passed c.args.place c.args.position _ c.index-nodes-place.is c.requires.from c.requires.more c.requires.some in
    let few : width (g.N.StoredNode.mark_of c.index-nodes-place.result) < 2 ^ 64 = omega (arith, next.fits, c.requires.fits) in
    search (rules, few)

pub overflow_add-at : goal.overflow_add-at
overflow_add-at g c =
    let next = next_node g.N.StoredNode.mark_of c.args.nodes.now c.args.passed c.args.place c.args.position _ c.index-nodes-place.is c.requires.from c.requires.more c.requires.some in
    let few : c.args.place + c.width-width.result < 2 ^ 64 = omega (arith, next.fits, c.requires.fits, c.width-width.ensures) in
    search (rules, few)

pub loop-count-init : goal.loop-count-init
loop-count-init g c =
    let next = next_node g.N.StoredNode.mark_of c.args.nodes.now c.args.passed c.args.place c.args.position _ c.index-nodes-place.is c.requires.from c.requires.more c.requires.some in
    subst (λ w. ItemsFrom (map g.N.StoredNode.mark_of c.args.nodes.now) (c.args.passed + 1) (c.args.place + w)) (sym c.width-width.ensures) next.next

pub bounds-nodes-at : goal.bounds-nodes-at
bounds-nodes-at g c =
    let f = g.N.StoredNode.mark_of in
    omega (arith, (next_place (map f c.args.nodes.now) c.loop-count.count c.loop-count.at c.args.position c.loop-count.invariant c.loop-count-test.true c.requires.some).inside, length-map c.args.nodes.now f)

pub width-requires : goal.width-requires
width-requires g c κs =
    let next = next_node g.N.StoredNode.mark_of c.args.nodes.now c.loop-count.count c.loop-count.at c.args.position _ c.index-nodes-at.is c.loop-count.invariant c.loop-count-test.true c.requires.some in
    let few : width (g.N.StoredNode.mark_of c.index-nodes-at.result) < 2 ^ 64 = omega (arith, next.fits, c.requires.fits) in
    search (rules, few)

pub overflow_add-at-in-loop-count : goal.overflow_add-at-in-loop-count
overflow_add-at-in-loop-count g c =
    let next = next_node g.N.StoredNode.mark_of c.args.nodes.now c.loop-count.count c.loop-count.at c.args.position _ c.index-nodes-at.is c.loop-count.invariant c.loop-count-test.true c.requires.some in
    let few : c.loop-count.at + c.width-width.result < 2 ^ 64 = omega (arith, next.fits, c.requires.fits, c.width.ensures, c.if-width.false) in
    search (rules, few)

pub loop-count-preserved : goal.loop-count-preserved
loop-count-preserved g c =
    let next = next_node g.N.StoredNode.mark_of c.args.nodes.now c.loop-count.count c.loop-count.at c.args.position _ c.index-nodes-at.is c.loop-count.invariant c.loop-count-test.true c.requires.some in
    let same : width (g.N.StoredNode.mark_of c.index-nodes-at.result) ≡ c.width-width.result = omega (arith, c.width.ensures, c.if-width.false) in
    subst (λ w. ItemsFrom (map g.N.StoredNode.mark_of c.args.nodes.now) (c.loop-count.count + 1) (c.loop-count.at + w)) same next.next
