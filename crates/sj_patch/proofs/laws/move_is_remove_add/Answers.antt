use Rattle.sj_patch.proofs.Moving.{moved-elsewhere, moved-there}
use Rattle.sj_patch.proofs.laws.move_is_remove_add.Goals as goal

pub returns : goal.returns
returns c = λ from to t. (λ e. moved-elsewhere from to t e, λ h. moved-there from t h)
