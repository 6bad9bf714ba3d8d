use Rattle.sj_canonical.proofs.Texts.{units_same}
use Rattle.sj_canonical.proofs.laws.units_of_one.Goals as goal

pub returns : goal.returns
returns c = λ k l u v e. units_same k l u v e
