use Rattle.sj_text_core.proofs.Equality.{same-refl}
use Rattle.sj_text_core.proofs.laws.same_as_itself.Goals as goal

pub returns : goal.returns
returns c = λ t. same-refl t
