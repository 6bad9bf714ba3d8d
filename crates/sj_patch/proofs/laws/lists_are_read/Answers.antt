use Rattle.sj_patch.proofs.Lists.{listed_read}
use Rattle.sj_patch.proofs.laws.lists_are_read.Goals as goal

pub returns : goal.returns
returns c = λ os. listed_read 0 os
