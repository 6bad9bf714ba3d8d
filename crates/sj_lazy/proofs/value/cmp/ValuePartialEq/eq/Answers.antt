use Rattle.sj_document.proofs.Compared.{answer_is}
use Rattle.sj_lazy.specs.Value.{seen}
use Rattle.sj_lazy.proofs.value.cmp.ValuePartialEq.eq.Goals as goal

pub returns-clause-answer : goal.returns-clause-answer
returns-clause-answer c = answer_is c.same_lazy.result (seen c.args.self.now) (seen c.args.other.now) c.same_lazy.ensures
