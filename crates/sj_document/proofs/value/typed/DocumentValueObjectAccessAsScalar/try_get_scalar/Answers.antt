use Rattle.std.proofs.Common.{◌∙◌}
use Rattle.sj_text_core.specs.Find.{find}
use Rattle.sj_text_core.specs.Reads.{as_members, kind_of}
use Rattle.sj_document.specs.Document.{document_tree}
use Rattle.sj_tape.proofs.Read.{reads_none, no_object, fault_is}
use Rattle.sj_document.proofs.value.typed.DocumentValueObjectAccessAsScalar.try_get_scalar.Goals as goal

pub returns-in-None : goal.returns-in-None
returns-in-None g c =
    let t = document_tree g.T.KeyText.text_of in
    reads_none g.S.Scalar.reading g.S.Scalar.kind (t c.args.self.now) (find c.args.key.now (t c.args.self.now)) c.in-None.is (λ v. t v.now) c.in_ok-member.ensures

pub returns-in_err-member : goal.returns-in_err-member
returns-in_err-member g c =
    let whole = document_tree g.T.KeyText.text_of c.args.self.now in
    fault_is c.from_residual.result c.in_err-member.field-0.0 c.from_residual.ensures
    ∙ no_object g.S.Scalar.reading g.S.Scalar.kind (kind_of whole) (as_members whole) (find c.args.key.now whole) _ c.in_err-member.ensures
