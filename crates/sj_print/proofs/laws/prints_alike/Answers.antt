use Rattle.sj_text_core.proofs.Recarried.{compact-same, pretty-same}
use Rattle.sj_text_core.proofs.parse.One.{compact_one, pretty_one}
use Rattle.sj_print.proofs.laws.prints_alike.Goals as goal

pub returns-clause-compact : goal.returns-clause-compact
returns-clause-compact g c = (λ e. compact_one _ _ c.is_proper.ensures c.is_proper-2.ensures e, λ e. compact-same _ _ e)

pub returns-clause-pretty : goal.returns-clause-pretty
returns-clause-pretty g c = λ level. (λ e. pretty_one _ _ level c.is_proper.ensures c.is_proper-2.ensures e, λ e. pretty-same _ _ level e)
