use Rattle.std.proofs.Common.{◌≡◌, ◌<◌, ◌++◌, rules, arith, map, take, drop, length, get_or, slice_set, add-one, sym, ap, subst}
use Rattle.std.specs.Vec.Iter.{into_iter_items}
use Rattle.sj_patch.specs.inner.Filled.{filled_all}
use Rattle.sj_patch.specs.Meant.{meant}
use Rattle.sj_patch.proofs.Behind.{seen}
use Rattle.sj_patch.proofs.Filling.{filled_further}
use Rattle.sj_patch.proofs.reading.fill_all.Goals as goal

pub loop-operation-preserved : goal.loop-operation-preserved
loop-operation-preserved g c =
    let t = g.T.KeyText.text_of in
    let os = c.loop-operation.operations in
    let i = c.loop-operation.operation-index in
    let l : i < length os = search (rules, arith) in
    let y = c.fill_next.new.operation in
    let ws = into_iter_items c.fill_next.new.items in
    subst (λ n. map (meant t) (take n (slice_set os i y)) ++ filled_all (map (meant t) (drop n (slice_set os i y))) (seen t ws) ≡ filled_all (map (meant t) c.args.operations.now) (seen t c.args.items.items)) (sym (add-one i))
    (filled_further t os i (get_or os i c.operation-item.result) y (into_iter_items c.loop-operation.items) ws _ l (ap (λ d. get_or os i d) c.operation-item.is) c.fill_next.ensures c.loop-operation.invariant)
