use Rattle.sj_text_core.proofs.Single.{find-keep_by}
use Rattle.sj_text_core.proofs.laws.finds_key_kept.Goals as goal

pub returns : goal.returns
returns c = λ r k t. find-keep_by r k t
