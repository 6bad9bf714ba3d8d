use Rattle.sj_commands.proofs.LineLemmas.{document-begins}
use Rattle.sj_commands.proofs.laws.document_begins.Goals as goal

pub returns : goal.returns
returns c = λ b. document-begins b
