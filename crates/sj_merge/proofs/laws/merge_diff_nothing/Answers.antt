use Rattle.sj_merge.proofs.Without.{nothing}
use Rattle.sj_merge.proofs.laws.merge_diff_nothing.Goals as goal

pub returns : goal.returns
returns c = nothing
