use Rattle.sj_print.proofs.Utf8.{IsUtf8-grown}
use Rattle.sj_print.proofs.generator.text.Text.push_str.Goals as goal

pub invariant_of-self : goal.invariant_of-self
invariant_of-self c = IsUtf8-grown _ _ _ _ c.extend_from_slice.ensures.items c.self.invariant c.as_bytes.ensures.utf8
