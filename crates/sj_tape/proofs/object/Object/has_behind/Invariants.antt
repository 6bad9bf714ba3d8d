use Rattle.std.proofs.Common.{◌≡◌, drop}
use Rattle.sj_text_core.specs.Agree.{pair_keys}
use Rattle.sj_text_core.specs.Keep.{is_seen}
use Rattle.sj_tape.specs.Members.{members, keys_ahead}
use Rattle.sj_text_core.specs.Tree.{paired}
use Rattle.sj_tape.proofs.object.Object.has_behind.Given as goal

abbrev pub invariant-loop-name : goal.invariant-loop-name
invariant-loop-name l =
    is_seen l.key (drop l.known (keys_ahead l.name-iterator)) ≡ is_seen l.key (drop l.place (pair_keys (paired (members l.fn.self))))
