use Rattle.sj_canonical.proofs.Chosen.{same_by_print}
use Rattle.sj_canonical.proofs.laws.same_by_is_equal_print.Goals as goal

pub returns : goal.returns
returns c = λ r s t u p q. same_by_print r s t u p q
