use Rattle.sj_text_core.proofs.parse.One.{one_tree}
use Rattle.sj_text_core.proofs.laws.spells_one.Goals as goal

pub returns : goal.returns
returns c = λ b t u s r. one_tree b t u s r
