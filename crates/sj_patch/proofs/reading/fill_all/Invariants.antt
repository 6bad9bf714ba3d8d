use Rattle.std.proofs.Common.{◌≡◌, ◌++◌, map, take, drop}
use Rattle.std.specs.Vec.Iter.{into_iter_items}
use Rattle.sj_patch.specs.inner.Filled.{filled_all}
use Rattle.sj_patch.specs.Meant.{meant}
use Rattle.sj_patch.proofs.Behind.{seen}
use Rattle.sj_patch.proofs.reading.fill_all.Given as goal

abbrev pub invariant-loop-operation : goal.invariant-loop-operation
invariant-loop-operation g l =
    let t = g.T.KeyText.text_of in
    map (meant t) (take l.operation-index l.operations) ++ filled_all (map (meant t) (drop l.operation-index l.operations)) (seen t (into_iter_items l.items)) ≡ filled_all (map (meant t) l.fn.operations) (seen t l.fn.items.items)
