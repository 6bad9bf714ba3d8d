use Rattle.sj_object.proofs.Compared.{walk-le-chain}
use Rattle.sj_object.proofs.laws.walks_chain.Goals as goal

pub returns : goal.returns
returns g c = λ h n k es. walk-le-chain h n k es
