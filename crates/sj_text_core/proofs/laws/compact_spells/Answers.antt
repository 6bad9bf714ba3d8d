use Rattle.sj_text_core.proofs.Printed.{compact-spells}
use Rattle.sj_text_core.proofs.laws.compact_spells.Goals as goal

pub returns : goal.returns
returns c = λ t h. compact-spells t h
