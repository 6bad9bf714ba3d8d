use Rattle.sj_lazy.specs.Object.{lazy_members}
use Rattle.sj_lazy.proofs.Lists.{no_members-empty}
use Rattle.sj_lazy.proofs.object.Object.is_empty.Goals as goal

pub returns : goal.returns
returns c = rw c.len.ensures (no_members-empty (lazy_members c.args.self.now))
