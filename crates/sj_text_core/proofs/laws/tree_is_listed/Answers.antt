use Rattle.sj_text_core.specs.Code.{tree_of-flat}
use Rattle.sj_text_core.proofs.laws.tree_is_listed.Goals as goal

pub returns : goal.returns
returns c = λ t. tree_of-flat t
