use Rattle.std.proofs.Common.{◌∙◌}
use Rattle.sj_text_core.specs.Reads.{as_members, kind_of}
use Rattle.sj_tape.specs.Value.{tape_tree, tape_found}
use Rattle.sj_tape.proofs.Read.{reads_none, no_object, fault_is}
use Rattle.sj_tape.proofs.value.typed.ValueValueObjectAccessAsScalar.try_get_scalar.Goals as goal

pub returns-in-None : goal.returns-in-None
returns-in-None g c =
    reads_none g.S.Scalar.reading g.S.Scalar.kind (tape_tree c.args.self.now) (tape_found c.args.self.now c.args.key.now) c.in-None.is tape_tree c.in_ok-value.ensures.value

pub returns-in_err-value : goal.returns-in_err-value
returns-in_err-value g c =
    let whole = tape_tree c.args.self.now in
    fault_is c.from_residual.result c.in_err-value.field-0.0 c.from_residual.ensures
    ∙ no_object g.S.Scalar.reading g.S.Scalar.kind (kind_of whole) (as_members whole) (tape_found c.args.self.now c.args.key.now) _ c.in_err-value.ensures.value
