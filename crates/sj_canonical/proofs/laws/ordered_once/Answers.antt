use Rattle.sj_canonical.proofs.Ordered.{ordered-canonical, ordered-stays}
use Rattle.sj_canonical.proofs.laws.ordered_once.Goals as goal

pub returns : goal.returns
returns c = λ t. (ordered-canonical t, ordered-stays t)
