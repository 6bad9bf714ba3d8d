use Rattle.sj_object.proofs.Shown.{lookup-entry_members}
use Rattle.sj_object.proofs.laws.looks_up_members.Goals as goal

pub returns : goal.returns
returns g c = λ tree k es. lookup-entry_members tree k es
