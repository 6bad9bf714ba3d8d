use Rattle.sj_text_core.proofs.Single.{keep_by-keep_by}
use Rattle.sj_text_core.proofs.laws.keeps_once.Goals as goal

pub returns : goal.returns
returns c = λ r t. keep_by-keep_by r t
