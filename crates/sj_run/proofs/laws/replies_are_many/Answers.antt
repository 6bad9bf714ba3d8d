use Rattle.sj_run.proofs.Series.{length-replies_by}
use Rattle.sj_run.proofs.laws.replies_are_many.Goals as goal

pub returns : goal.returns
returns c = λ t cs. length-replies_by t cs
