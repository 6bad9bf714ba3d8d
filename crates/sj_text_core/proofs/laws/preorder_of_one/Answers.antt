use Rattle.sj_text_core.proofs.Preorders.{flat-same}
use Rattle.sj_text_core.proofs.laws.preorder_of_one.Goals as goal

pub returns : goal.returns
returns c = λ t u e. flat-same t u e
