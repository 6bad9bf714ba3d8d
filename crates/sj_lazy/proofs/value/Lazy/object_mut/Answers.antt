use Rattle.std.proofs.Common.{Some, refl, ap, ◌∙◌}
use Rattle.sj_text_core.specs.Reads.{as_members}
use Rattle.sj_lazy.proofs.value.Lazy.object_mut.Goals as goal

pub returns-in-Some : goal.returns-in-Some
returns-in-Some g c = (
  (refl, λ w. λ h. (rw c.in-Ok.is at (c.as_mut.follows.holds (c.as_object_mut.follows.lender w))) refl ∙ ap Some (rw c.in-Some.is at (c.as_object_mut.follows.holds w)), tt),
  record { writes_back = tt; value = c.in-Some.ensures.value ∙ ap as_members c.in-Ok.ensures.value; kind = tt; succeeds = λ h i. refl },
)
