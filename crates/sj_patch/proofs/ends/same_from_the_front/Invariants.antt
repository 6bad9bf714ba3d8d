use Rattle.std.proofs.Common.{map, take}
use Rattle.sj_text_core.specs.Same.{Same}
use Rattle.sj_document.specs.Document.{document_tree}
use Rattle.sj_patch.specs.inner.Noted.{array}
use Rattle.sj_patch.proofs.ends.same_from_the_front.Given as goal

abbrev pub invariant-loop-i : goal.invariant-loop-i
invariant-loop-i g l =
    let t = document_tree g.T.KeyText.text_of in
    Same (array (map t (take l.i l.old))) (array (map t (take l.i l.new)))
