use Rattle.std.proofs.Common.{sym, subst}
use Rattle.sj_tape.specs.inner.Ahead.{MembersAhead}
use Rattle.sj_tape.specs.Marks.{packed_marks}
use Rattle.sj_tape.proofs.Ahead.{at_ahead}
use Rattle.sj_tape.proofs.search.tagged.first_behind.Goals as goal

pub first_in_runs-requires : goal.first_in_runs-requires
first_in_runs-requires g c =
    let ns = packed_marks c.args.nodes.now in
    subst (MembersAhead ns) (sym c.requires.at) (at_ahead ns c.requires.are c.args.from c.requires.within)
