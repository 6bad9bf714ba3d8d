use Rattle.sj_text_core.proofs.Writes.{last-push, front-push, nth-push}
use Rattle.sj_text_core.proofs.laws.pushed_is_last.Goals as goal

pub returns : goal.returns
returns c = λ t is. (last-push t is, front-push t is, nth-push t is)
