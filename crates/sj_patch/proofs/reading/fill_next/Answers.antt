use Rattle.std.specs.Vec.Iter.{into_iter_items}
use Rattle.sj_patch.specs.Meant.{meant}
use Rattle.sj_patch.proofs.Filling.{filled-last}
use Rattle.sj_patch.proofs.reading.fill_next.Goals as goal

pub returns-in-None : goal.returns-in-None
returns-in-None g c =
    let t = g.T.KeyText.text_of in
    λ os. filled-last t (meant t c.args.operation.now) os (into_iter_items c.args.items.now) (into_iter_items c.next.new.self) _ c.args.items.now.rest.ok.0 c.in-None.ensures.cases.0 c.in-None.ensures.items
