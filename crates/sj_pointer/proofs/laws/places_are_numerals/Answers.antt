use Rattle.sj_pointer.proofs.Numerals.{places_are}
use Rattle.sj_pointer.proofs.laws.places_are_numerals.Goals as goal

pub returns : goal.returns
returns c = places_are
