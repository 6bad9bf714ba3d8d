use Rattle.sj_document.specs.Document.{document_tree}
use Rattle.sj_document.proofs.Compared.{answer_is}
use Rattle.sj_document.proofs.value.cmp.DocumentPartialEq.eq.Goals as goal

pub returns-clause-answer : goal.returns-clause-answer
returns-clause-answer g c = let t = document_tree g.T.KeyText.text_of in answer_is c.same_as.result (t c.args.self.now) (t c.args.other.now) c.same_as.ensures
