use Rattle.sj_lazy.proofs.Steps.{shared_kept}
use Rattle.sj_lazy.proofs.value.Value.repeats.Goals as goal

pub returns-in-Value-clause-kept : goal.returns-in-Value-clause-kept
returns-in-Value-clause-kept c = rw c.in-Value.is (shared_kept c.in-Value.field-0)
