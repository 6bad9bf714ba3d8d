use Rattle.sj_text_core.proofs.Writes.{set_at-missing}
use Rattle.sj_text_core.proofs.laws.set_nowhere.Goals as goal

pub returns : goal.returns
returns c = set_at-missing
