use Rattle.std.proofs.Common.{ap, refl}
use Rattle.sj_tape.specs.Marks.{mark}
use Rattle.sj_tape.proofs.preorder.is_text.Goals as goal

pub returns-in-String : goal.returns-in-String
returns-in-String c = (λ _. (c.in-String.field-0.now, ap (λ n. mark n) c.in-String.is), λ _. refl)
