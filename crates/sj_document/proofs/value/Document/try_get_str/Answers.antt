use Rattle.sj_text_core.specs.Find.{find}
use Rattle.sj_text_core.specs.Reads.{as_text}
use Rattle.sj_text_core.specs.declared.value_type.ValueType.TheVariants as kind
use Rattle.sj_document.specs.Document.{document_tree}
use Rattle.sj_tape.proofs.Read.{reads_none, reads_there, reads_no_object, reads_other}
use Rattle.sj_document.proofs.value.Document.try_get_str.Goals as goal

pub returns-in_ok-try_as_str-in-Some : goal.returns-in_ok-try_as_str-in-Some
returns-in_ok-try_as_str-in-Some g c =
    let t = document_tree g.T.KeyText.text_of in
    reads_there as_text kind.String (t c.args.self.now) (find c.args.key.now (t c.args.self.now)) c.in-Some.member _ c.in-Some.is (λ v. t v.now) c.in_ok-member.ensures c.in_ok-try_as_str-in-Some.ensures

pub returns-in-None : goal.returns-in-None
returns-in-None g c =
    let t = document_tree g.T.KeyText.text_of in
    reads_none as_text kind.String (t c.args.self.now) (find c.args.key.now (t c.args.self.now)) c.in-None.is (λ v. t v.now) c.in_ok-member.ensures

pub returns-in_err-member : goal.returns-in_err-member
returns-in_err-member g c =
    let t = document_tree g.T.KeyText.text_of in
    reads_no_object as_text kind.String (t c.args.self.now) (find c.args.key.now (t c.args.self.now)) c.from_residual.result c.in_err-member.field-0.0 c.from_residual.ensures (λ v. v.now) c.in_err-member.ensures

pub returns-in_err-try_as_str-in-Some : goal.returns-in_err-try_as_str-in-Some
returns-in_err-try_as_str-in-Some g c =
    let t = document_tree g.T.KeyText.text_of in
    let residual = c.from_residual-in_err-try_as_str-in-Some in
    let fault = c.in_err-try_as_str-in-Some in
    reads_other as_text kind.String (t c.args.self.now) (find c.args.key.now (t c.args.self.now)) residual.result fault.field-0.0 residual.ensures (λ v. v.now) c.in-Some.member c.in-Some.is (λ v. t v.now) c.in_ok-member.ensures fault.ensures
