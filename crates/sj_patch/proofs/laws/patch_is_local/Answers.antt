use Rattle.sj_patch.proofs.LocalPatches.{patched-below}
use Rattle.sj_patch.proofs.laws.patch_is_local.Goals as goal

pub returns : goal.returns
returns c = λ n ks ops t u e h. patched-below n ks ops t u e h
