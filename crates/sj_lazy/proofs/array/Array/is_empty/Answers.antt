use Rattle.sj_lazy.specs.Array.{lazy_items}
use Rattle.sj_lazy.proofs.Lists.{no_items-empty}
use Rattle.sj_lazy.proofs.array.Array.is_empty.Goals as goal

pub returns : goal.returns
returns c = rw c.len.ensures (no_items-empty (lazy_items c.args.self.now))
