use Rattle.sj_text_core.proofs.Writes.{find-put_other}
use Rattle.sj_text_core.proofs.laws.finds_others_put.Goals as goal

pub returns : goal.returns
returns c = find-put_other
