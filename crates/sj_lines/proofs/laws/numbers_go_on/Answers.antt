use Rattle.sj_lines.proofs.Steps.{numbered-append}
use Rattle.sj_lines.proofs.laws.numbers_go_on.Goals as goal

pub returns : goal.returns
returns c = λ n ls ms. numbered-append n ls ms
