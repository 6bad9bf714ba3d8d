use Rattle.sj_text_core.proofs.Single.{single-keep_by}
use Rattle.sj_text_core.proofs.laws.keeps_single.Goals as goal

pub returns : goal.returns
returns c = λ r t. single-keep_by r t
