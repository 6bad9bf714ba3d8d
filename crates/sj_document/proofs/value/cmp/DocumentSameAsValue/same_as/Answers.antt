use Rattle.sj_text_core.proofs.Equality.{same-sym}
use Rattle.sj_text_core.specs.Repeats.{by_first}
use Rattle.sj_tape.specs.Value.{tape_tree, tape_choice}
use Rattle.sj_document.specs.Document.{document_tree}
use Rattle.sj_document.proofs.value.cmp.DocumentSameAsValue.same_as.Goals as goal

pub returns : goal.returns
returns g c =
    let mine = document_tree g.T.KeyText.text_of c.args.self.now in
    let other = by_first (tape_choice c.args.other.now) (tape_tree c.args.other.now) in
    (λ h. same-sym other mine (c.same_as_tape.ensures.0 h), λ h. c.same_as_tape.ensures.1 (same-sym mine other h))
