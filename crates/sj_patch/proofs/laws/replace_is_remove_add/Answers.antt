use Rattle.sj_patch.proofs.Replacing.{replaced-anew}
use Rattle.sj_patch.proofs.laws.replace_is_remove_add.Goals as goal

pub returns : goal.returns
returns c = λ n ks v t h. replaced-anew n ks v t h
