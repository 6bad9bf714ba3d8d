use Rattle.sj_text_core.proofs.Writes.{tree_at-set}
use Rattle.sj_text_core.proofs.laws.set_is_there.Goals as goal

pub returns : goal.returns
returns c = tree_at-set
