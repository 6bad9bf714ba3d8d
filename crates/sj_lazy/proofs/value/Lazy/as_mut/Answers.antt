use Rattle.std.proofs.Common.{refl, ◌∙◌}
use Rattle.sj_lazy.proofs.Steps.{some_is}
use Rattle.sj_lazy.proofs.value.Lazy.as_mut.Goals as goal

pub returns-in-Some : goal.returns-in-Some
returns-in-Some g c = (
  (refl, λ w. λ h. rw c.in-Some.is at (c.owned_mut.follows.holds w), tt),
  record { writes_back = tt; value = some_is _ _ (c.in-Some.ensures.value ∙ c.in_ok-own.ensures.kept); succeeds = λ h. refl },
)
