use Rattle.sj_text_core.proofs.Equality.{same-sym}
use Rattle.sj_text_core.proofs.laws.same_both_ways.Goals as goal

pub returns : goal.returns
returns c = λ t u h. same-sym t u h
