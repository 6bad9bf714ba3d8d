use Rattle.sj_text_core.proofs.Single.{keep_by-single}
use Rattle.sj_text_core.proofs.laws.single_is_kept.Goals as goal

pub returns : goal.returns
returns c = λ r t h. keep_by-single r t h
