use Rattle.sj_tape.specs.Marks.{packed_marks}
use Rattle.sj_tape.proofs.Ahead.{first_at}
use Rattle.sj_tape.proofs.search.tagged.first_of_wide.Goals as goal

pub first_among-requires-clause-at : goal.first_among-requires-clause-at
first_among-requires-clause-at g c = first_at (packed_marks c.args.nodes.now)
