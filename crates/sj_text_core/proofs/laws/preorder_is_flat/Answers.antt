use Rattle.sj_text_core.proofs.Preorders.{preorder-flat}
use Rattle.sj_text_core.proofs.laws.preorder_is_flat.Goals as goal

pub returns : goal.returns
returns c = λ ns. preorder-flat ns
