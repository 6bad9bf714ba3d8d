use Rattle.sj_text_core.proofs.Finds.{within-recarry}
use Rattle.sj_text_core.proofs.laws.within_recarried.Goals as goal

pub returns : goal.returns
returns c = λ t h. within-recarry t h
