use Rattle.sj_text_core.specs.Reads.{as_members}
use Rattle.sj_text_core.specs.declared.value_type.ValueType.TheVariants as kind
use Rattle.sj_tape.specs.Value.{tape_tree, tape_found}
use Rattle.sj_tape.specs.Members.{members}
use Rattle.sj_tape.proofs.Read.{reads_none, reads_there, reads_no_object, reads_other}
use Rattle.sj_tape.proofs.value.Value.try_get_object.Goals as goal

pub returns-in_ok-try_as_object-in-Some-clause-members : goal.returns-in_ok-try_as_object-in-Some-clause-members
returns-in_ok-try_as_object-in-Some-clause-members c =
    reads_there as_members kind.Object (tape_tree c.args.self.now) (tape_found c.args.self.now c.args.key.now) c.in-Some.value _ c.in-Some.is tape_tree c.in_ok-value.ensures.value c.in_ok-try_as_object-in-Some.ensures.members

pub returns-in-None-clause-members : goal.returns-in-None-clause-members
returns-in-None-clause-members c =
    reads_none as_members kind.Object (tape_tree c.args.self.now) (tape_found c.args.self.now c.args.key.now) c.in-None.is tape_tree c.in_ok-value.ensures.value

pub returns-in_err-value-clause-members : goal.returns-in_err-value-clause-members
returns-in_err-value-clause-members c =
    reads_no_object as_members kind.Object (tape_tree c.args.self.now) (tape_found c.args.self.now c.args.key.now) c.from_residual.result c.in_err-value.field-0.0 c.from_residual.ensures members c.in_err-value.ensures.value

pub returns-in_err-try_as_object-in-Some-clause-members : goal.returns-in_err-try_as_object-in-Some-clause-members
returns-in_err-try_as_object-in-Some-clause-members c =
    let residual = c.from_residual-in_err-try_as_object-in-Some in
    let fault = c.in_err-try_as_object-in-Some in
    reads_other as_members kind.Object (tape_tree c.args.self.now) (tape_found c.args.self.now c.args.key.now) residual.result fault.field-0.0 residual.ensures members c.in-Some.value c.in-Some.is tape_tree c.in_ok-value.ensures.value fault.ensures.members
