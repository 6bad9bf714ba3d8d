use Rattle.sj_canonical.proofs.Alike.{same_print, print_same}
use Rattle.sj_canonical.proofs.laws.same_is_equal_print.Goals as goal

pub returns : goal.returns
returns c = λ t u p q s r. (λ h. same_print t u p q s r h, λ e. print_same t u p q e)
