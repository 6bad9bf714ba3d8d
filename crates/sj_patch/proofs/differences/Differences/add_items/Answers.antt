use Rattle.std.proofs.Common.{◌<◌, length, map, ap, ◌∙◌, arith}
use Rattle.sj_document.specs.Document.{document_tree}
use Rattle.sj_patch.specs.inner.Noted.{token_meant}
use Rattle.sj_patch.proofs.Noting.{noted-more}
use Rattle.sj_patch.proofs.NotedItems.{additions-at}
use Rattle.sj_patch.proofs.differences.Differences.add_items.Goals as goal

pub loop-i-preserved : goal.loop-i-preserved
loop-i-preserved g c =
    let i = c.loop-i.invariant in
    let inside : c.loop-i.i < length c.args.items.now = omega (arith, c.loop-i-test.true, c.requires.in_items) in
    record {
      place = c.in_ok-add.ensures.place ∙ i.place;
      noted = noted-more _ _ _ _ _ _ _ _ i.noted (ap (map token_meant) i.place) c.in_ok-add.ensures.noted
          (additions-at (document_tree g.T.KeyText.text_of) c.args.items.now c.args.first c.loop-i.i c.index-items-i.result c.loop-i.auto.i inside c.index-items-i.is);
    }
