use Rattle.std.proofs.Common.{Some}
use Rattle.sj_merge.proofs.Without.{without}
use Rattle.sj_merge.proofs.laws.merge_diff_none.Goals as goal

pub returns : goal.returns
returns c = λ t u a b e p s h. without (Some t) u a b e p s h
