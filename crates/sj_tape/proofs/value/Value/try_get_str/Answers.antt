use Rattle.sj_text_core.specs.Reads.{as_text}
use Rattle.sj_text_core.specs.declared.value_type.ValueType.TheVariants as kind
use Rattle.sj_tape.specs.Value.{tape_tree, tape_found}
use Rattle.sj_tape.proofs.Read.{reads_none, reads_there, reads_no_object, reads_other}
use Rattle.sj_tape.proofs.value.Value.try_get_str.Goals as goal

pub returns-in_ok-try_into_string-in-Some : goal.returns-in_ok-try_into_string-in-Some
returns-in_ok-try_into_string-in-Some c =
    reads_there as_text kind.String (tape_tree c.args.self.now) (tape_found c.args.self.now c.args.key.now) c.in-Some.value _ c.in-Some.is tape_tree c.in_ok-value.ensures.value c.in_ok-try_into_string-in-Some.ensures

pub returns-in-None : goal.returns-in-None
returns-in-None c =
    reads_none as_text kind.String (tape_tree c.args.self.now) (tape_found c.args.self.now c.args.key.now) c.in-None.is tape_tree c.in_ok-value.ensures.value

pub returns-in_err-value : goal.returns-in_err-value
returns-in_err-value c =
    reads_no_object as_text kind.String (tape_tree c.args.self.now) (tape_found c.args.self.now c.args.key.now) c.from_residual.result c.in_err-value.field-0.0 c.from_residual.ensures (λ s. s.now) c.in_err-value.ensures.value

pub returns-in_err-try_into_string-in-Some : goal.returns-in_err-try_into_string-in-Some
returns-in_err-try_into_string-in-Some c =
    let residual = c.from_residual-in_err-try_into_string-in-Some in
    let fault = c.in_err-try_into_string-in-Some in
    reads_other as_text kind.String (tape_tree c.args.self.now) (tape_found c.args.self.now c.args.key.now) residual.result fault.field-0.0 residual.ensures (λ s. s.now) c.in-Some.value c.in-Some.is tape_tree c.in_ok-value.ensures.value fault.ensures
