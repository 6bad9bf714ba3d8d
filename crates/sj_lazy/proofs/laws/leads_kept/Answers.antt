use Rattle.sj_lazy.proofs.Paths.{leads-kept}
use Rattle.sj_lazy.proofs.laws.leads_kept.Goals as goal

pub returns : goal.returns
returns c = λ v p. leads-kept v p
