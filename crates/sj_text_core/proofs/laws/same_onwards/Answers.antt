use Rattle.sj_text_core.proofs.Equality.{same-trans}
use Rattle.sj_text_core.proofs.laws.same_onwards.Goals as goal

pub returns : goal.returns
returns c = λ t u v h i. same-trans t u v h i
