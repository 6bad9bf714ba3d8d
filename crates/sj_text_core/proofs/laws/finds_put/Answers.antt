use Rattle.sj_text_core.proofs.Writes.{find-put_same}
use Rattle.sj_text_core.proofs.laws.finds_put.Goals as goal

pub returns : goal.returns
returns c = find-put_same
