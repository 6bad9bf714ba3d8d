use Rattle.std.proofs.Common.{◌∙◌}
use Rattle.sj_print.proofs.Puts.{appends_as}
use Rattle.sj_print.proofs.output.Output.put_static.Goals as goal

pub returns : goal.returns
returns g c = appends_as g.Self.Output.holds c.args.self c.put_bytes.result c.as_bytes.result.now _ (c.as_bytes.ensures.value ∙ c.text_in.ensures) c.put_bytes.ensures c.as_bytes.ensures.utf8
