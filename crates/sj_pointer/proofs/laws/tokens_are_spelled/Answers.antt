use Rattle.sj_pointer.proofs.Spellings.{spelled_are}
use Rattle.sj_pointer.proofs.laws.tokens_are_spelled.Goals as goal

pub returns : goal.returns
returns c = spelled_are
