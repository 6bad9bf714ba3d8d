use Rattle.std.proofs.Common.{◌≡◌, ◌≤◌, ◌-◌, take}
use Rattle.sj_text_core.specs.Agree.{is_seen_before}
use Rattle.sj_text_core.specs.Keep.{is_seen}
use Rattle.sj_tape.specs.Members.{members, keys_ahead}
use Rattle.sj_text_core.specs.Tree.{paired}
use Rattle.sj_tape.proofs.object.Object.has_before.Given as goal

abbrev pub invariant-loop-name : goal.invariant-loop-name
invariant-loop-name l =
    record {
      within : l.at ≤ l.place;
      ahead : is_seen l.key (take (l.place - l.at) (keys_ahead l.name-iterator)) ≡ is_seen_before l.place l.key (paired (members l.fn.self));
    }
