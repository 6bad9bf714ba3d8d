use Rattle.std.proofs.Common.{◌≡◌}
use Rattle.sj_text_core.specs.Find.{find_member}
use Rattle.sj_text_core.specs.Tree.{members_from}
use Rattle.sj_tape.specs.Members.{members, members_ahead}
use Rattle.sj_tape.proofs.object.Object.first.Given as goal

abbrev pub invariant-loop-name : goal.invariant-loop-name
invariant-loop-name l =
    find_member l.key (members_from (members_ahead l.name-iterator)) ≡ find_member l.key (members l.fn.self)
