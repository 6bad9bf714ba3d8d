use Rattle.sj_print.proofs.Utf8.{IsUtf8-quoted, IsUtf8-written}
use Rattle.sj_print.proofs.generator.text.Text.push_quoted.Goals as goal

pub invariant_of-self : goal.invariant_of-self
invariant_of-self c = IsUtf8-written c.append_quoted.result _ _ _ c.append_quoted.ensures.ok c.append_quoted.ensures.err c.self.invariant (IsUtf8-quoted _ c.utf8.text)
