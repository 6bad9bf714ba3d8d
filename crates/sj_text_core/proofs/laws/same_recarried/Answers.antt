use Rattle.sj_text_core.proofs.Finds.{same-recarry}
use Rattle.sj_text_core.proofs.laws.same_recarried.Goals as goal

pub returns : goal.returns
returns c = λ t. same-recarry t
