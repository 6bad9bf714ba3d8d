use Rattle.sj_text_core.proofs.Writes.{find-cut_same}
use Rattle.sj_text_core.proofs.laws.cut_is_gone.Goals as goal

pub returns : goal.returns
returns c = find-cut_same
