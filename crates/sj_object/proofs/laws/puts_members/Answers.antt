use Rattle.sj_object.proofs.Shown.{entry_members-put}
use Rattle.sj_object.proofs.laws.puts_members.Goals as goal

pub returns : goal.returns
returns g c = λ tree q v es. entry_members-put tree q v es
