use Rattle.sj_run.proofs.Series.{replies_by-append, part_after-append}
use Rattle.sj_run.proofs.laws.runs_join.Goals as goal

pub returns : goal.returns
returns c = λ t cs ds. (replies_by-append t cs ds, part_after-append t cs ds)
