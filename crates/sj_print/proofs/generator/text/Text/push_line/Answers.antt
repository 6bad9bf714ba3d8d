use Rattle.sj_print.proofs.Utf8.{IsUtf8-line, IsUtf8-written}
use Rattle.sj_print.proofs.generator.text.Text.push_line.Goals as goal

pub invariant_of-self : goal.invariant_of-self
invariant_of-self c = IsUtf8-written c.append_line.result _ _ _ c.append_line.ensures.ok c.append_line.ensures.err c.self.invariant (IsUtf8-line c.args.spaces)
