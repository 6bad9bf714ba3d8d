use Rattle.sj_text_core.proofs.Writes.{find-cut_other}
use Rattle.sj_text_core.proofs.laws.finds_others_cut.Goals as goal

pub returns : goal.returns
returns c = find-cut_other
