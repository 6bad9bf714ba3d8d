use Rattle.sj_object.proofs.Kept.{object_kept}
use Rattle.sj_object.proofs.laws.keeps_objects.Goals as goal

pub returns : goal.returns
returns g c = λ tree kept m. object_kept tree kept m
