use Rattle.sj_text_core.proofs.Back.{reads-back}
use Rattle.sj_text_core.proofs.laws.reads_back.Goals as goal

pub returns : goal.returns
returns c = λ r t b h w e. reads-back r t b h w e
