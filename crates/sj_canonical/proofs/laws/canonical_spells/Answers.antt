use Rattle.sj_text_core.proofs.Printed.{compact-spells}
use Rattle.sj_canonical.specs.Canonical.{canonical}
use Rattle.sj_canonical.proofs.Alike.{proper-canonical}
use Rattle.sj_canonical.proofs.Lengths.{canonical_len}
use Rattle.sj_canonical.proofs.laws.canonical_spells.Goals as goal

pub returns : goal.returns
returns c = λ t. (canonical_len t, λ p. compact-spells (canonical t) (proper-canonical t p))
