use Rattle.sj_text_core.proofs.parse.One.{compact_one, pretty_one}
use Rattle.sj_text_core.proofs.laws.printed_apart.Goals as goal

pub returns : goal.returns
returns c = λ t u p q. (λ e. compact_one t u p q e, λ level e. pretty_one t u level p q e)
