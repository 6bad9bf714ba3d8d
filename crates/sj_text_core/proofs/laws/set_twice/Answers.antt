use Rattle.sj_text_core.proofs.Writes.{set_at-twice}
use Rattle.sj_text_core.proofs.laws.set_twice.Goals as goal

pub returns : goal.returns
returns c = set_at-twice
