use Rattle.std.proofs.Common.{refl}
use Rattle.sj_borrowed.proofs.known_key.or_insert.members_of.Goals as goal

pub returns-in-Some : goal.returns-in-Some
returns-in-Some g c = ((refl, λ w. λ h. rw c.in-Some.is at (c.as_object_mut.follows.holds w), tt), record { writes_back = tt; value = c.in-Some.ensures.value; kind = tt; refused = tt })
