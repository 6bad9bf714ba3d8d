use Rattle.std.proofs.Common.{rules, ◌<◌, length, arith}
use Rattle.sj_document.specs.Document.{document_tree}
use Rattle.sj_patch.proofs.NotedItems.{back-more}
use Rattle.sj_patch.proofs.ends.same_from_the_back.Goals as goal

pub loop-i-preserved : goal.loop-i-preserved
loop-i-preserved g c =
    let t = document_tree g.T.KeyText.text_of in
    let in_old : c.loop-i.i < length c.args.old.now = search (rules, arith) in
    let in_new : c.loop-i.i < length c.args.new.now = search (rules, arith) in
    back-more t c.args.old.now c.args.new.now c.loop-i.i c.index-old-old.result c.index-new-new.result in_old in_new c.index-old-old.is c.index-new-new.is (c.eq-same.ensures.same.0 c.if-not-same.false) c.loop-i.invariant
