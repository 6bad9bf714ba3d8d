use Rattle.sj_text_core.proofs.Finds.{same-keep}
use Rattle.sj_text_core.proofs.laws.same_kept.Goals as goal

pub returns : goal.returns
returns c = λ t. same-keep t
