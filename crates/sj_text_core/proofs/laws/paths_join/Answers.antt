use Rattle.sj_text_core.proofs.Writes.{tree_at-join, set_at-join}
use Rattle.sj_text_core.proofs.laws.paths_join.Goals as goal

pub returns : goal.returns
returns c = λ p q t. (tree_at-join p q t, λ u w e. set_at-join p q u w t e)
