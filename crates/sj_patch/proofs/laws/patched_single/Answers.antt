use Rattle.std.proofs.Common.{subst}
use Rattle.sj_text_core.proofs.Equality.{same-refl}
use Rattle.sj_patch.proofs.Alike.{Alike, patched-alike}
use Rattle.sj_patch.proofs.laws.patched_single.Goals as goal

pub returns : goal.returns
returns c = λ n ops t u s x e. (subst (λ r. Alike r r) e (patched-alike n ops t t s (same-refl t, x, x))).1
