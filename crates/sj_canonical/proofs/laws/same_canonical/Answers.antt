use Rattle.sj_canonical.proofs.Alike.{same-canonical}
use Rattle.sj_canonical.proofs.laws.same_canonical.Goals as goal

pub returns : goal.returns
returns c = λ t. same-canonical t
