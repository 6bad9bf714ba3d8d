use Rattle.sj_text_core.proofs.Proper.{spells_utf8 as utf8}
use Rattle.sj_text_core.proofs.laws.spells_utf8.Goals as goal

pub returns : goal.returns
returns c = λ b t s. utf8 b t s
