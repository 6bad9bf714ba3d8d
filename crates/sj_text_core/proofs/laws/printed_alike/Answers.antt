use Rattle.sj_text_core.proofs.Recarried.{compact-same, pretty-same}
use Rattle.sj_text_core.proofs.laws.printed_alike.Goals as goal

pub returns : goal.returns
returns c = λ t u e. (compact-same t u e, λ level. pretty-same t u level e)
