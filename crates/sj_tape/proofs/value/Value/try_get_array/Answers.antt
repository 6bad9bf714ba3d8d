use Rattle.sj_text_core.specs.Reads.{as_items}
use Rattle.sj_text_core.specs.declared.value_type.ValueType.TheVariants as kind
use Rattle.sj_tape.specs.Value.{tape_tree, tape_found}
use Rattle.sj_tape.specs.Items.{items}
use Rattle.sj_tape.proofs.Read.{reads_none, reads_there, reads_no_object, reads_other}
use Rattle.sj_tape.proofs.value.Value.try_get_array.Goals as goal

pub returns-in_ok-try_as_array-in-Some-clause-items : goal.returns-in_ok-try_as_array-in-Some-clause-items
returns-in_ok-try_as_array-in-Some-clause-items c =
    reads_there as_items kind.Array (tape_tree c.args.self.now) (tape_found c.args.self.now c.args.key.now) c.in-Some.value _ c.in-Some.is tape_tree c.in_ok-value.ensures.value c.in_ok-try_as_array-in-Some.ensures.items

pub returns-in-None-clause-items : goal.returns-in-None-clause-items
returns-in-None-clause-items c =
    reads_none as_items kind.Array (tape_tree c.args.self.now) (tape_found c.args.self.now c.args.key.now) c.in-None.is tape_tree c.in_ok-value.ensures.value

pub returns-in_err-value-clause-items : goal.returns-in_err-value-clause-items
returns-in_err-value-clause-items c =
    reads_no_object as_items kind.Array (tape_tree c.args.self.now) (tape_found c.args.self.now c.args.key.now) c.from_residual.result c.in_err-value.field-0.0 c.from_residual.ensures items c.in_err-value.ensures.value

pub returns-in_err-try_as_array-in-Some-clause-items : goal.returns-in_err-try_as_array-in-Some-clause-items
returns-in_err-try_as_array-in-Some-clause-items c =
    let residual = c.from_residual-in_err-try_as_array-in-Some in
    let fault = c.in_err-try_as_array-in-Some in
    reads_other as_items kind.Array (tape_tree c.args.self.now) (tape_found c.args.self.now c.args.key.now) residual.result fault.field-0.0 residual.ensures items c.in-Some.value c.in-Some.is tape_tree c.in_ok-value.ensures.value fault.ensures.items
