use Rattle.sj_lines.specs.Lines.{full_lines}
use Rattle.sj_lines.proofs.Steps.{numbered-texts}
use Rattle.sj_lines.proofs.laws.none_left_out.Goals as goal

pub returns : goal.returns
returns c = λ b. numbered-texts 1 (full_lines b)
