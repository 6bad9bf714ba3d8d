use Rattle.sj_text_core.proofs.Writes.{set_at-same}
use Rattle.sj_text_core.proofs.laws.set_same.Goals as goal

pub returns : goal.returns
returns c = set_at-same
