use Rattle.sj_patch.specs.Patch.{patched_from}
use Rattle.sj_patch.proofs.Alike.{patched-alike, same-alike}
use Rattle.sj_patch.proofs.laws.patched_same.Goals as goal

pub returns : goal.returns
returns c = λ n ops t u s x y h. same-alike (patched_from n ops t) (patched_from n ops u) (patched-alike n ops t u s (h, x, y))
