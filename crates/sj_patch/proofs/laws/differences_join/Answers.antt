use Rattle.sj_patch.proofs.Leading.{becomes-join}
use Rattle.sj_patch.proofs.laws.differences_join.Goals as goal

pub returns : goal.returns
returns c = λ xs ys t u w p q x y h i. becomes-join xs ys t u w p q x y h i
