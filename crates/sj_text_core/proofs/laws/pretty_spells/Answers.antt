use Rattle.sj_text_core.proofs.Printed.{pretty-spells}
use Rattle.sj_text_core.proofs.laws.pretty_spells.Goals as goal

pub returns : goal.returns
returns c = λ t level h. pretty-spells t level h
