use Rattle.sj_patch.proofs.LocalMissing.{patched-missing}
use Rattle.sj_patch.proofs.laws.patched_nowhere.Goals as goal

pub returns : goal.returns
returns c = λ n ks op ops t e h. patched-missing n ks op ops t e h
