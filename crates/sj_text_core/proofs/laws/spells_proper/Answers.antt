use Rattle.sj_text_core.proofs.Proper.{spells_proper as proper}
use Rattle.sj_text_core.proofs.laws.spells_proper.Goals as goal

pub returns : goal.returns
returns c = λ b t s. proper b t s
