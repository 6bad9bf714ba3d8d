use Rattle.sj_object.proofs.Shown.{entry_members-cut}
use Rattle.sj_object.proofs.laws.cuts_members.Goals as goal

pub returns : goal.returns
returns g c = λ tree k es. entry_members-cut tree k es
