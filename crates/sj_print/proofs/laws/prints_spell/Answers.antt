use Rattle.sj_text_core.proofs.Printed.{compact-spells, pretty-spells}
use Rattle.sj_print.proofs.laws.prints_spell.Goals as goal

pub returns : goal.returns
returns g c = record {
  compact = compact-spells _ c.is_proper.ensures;
  pretty = λ level. pretty-spells _ level c.is_proper.ensures;
}
