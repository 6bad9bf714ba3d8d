use Rattle.sj_text_core.proofs.Paths.{tree_at-keep}
use Rattle.sj_text_core.proofs.laws.finds_kept.Goals as goal

pub returns : goal.returns
returns c = λ p t. tree_at-keep p t
