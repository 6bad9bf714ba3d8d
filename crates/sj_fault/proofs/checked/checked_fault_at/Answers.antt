use Rattle.sj_fault.proofs.Beginnings.{begin-none}
use Rattle.sj_fault.proofs.checked.checked_fault_at.Goals as goal

pub returns-clause-begin : goal.returns-clause-begin
returns-clause-begin c = begin-none
