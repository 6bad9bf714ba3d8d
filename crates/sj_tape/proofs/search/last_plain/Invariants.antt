use Rattle.std.proofs.Common.{◌≡◌, ◌+◌, length, option_map}
use Rattle.std.specs.Option.{option_or}
use Rattle.sj_tape.specs.inner.Lookup.{last_value}
use Rattle.sj_tape.specs.Members.{members_parts_ahead}
use Rattle.sj_tape.specs.Value.{tape_part}
use Rattle.sj_tape.proofs.search.last_plain.Given as goal

abbrev pub invariant-loop-name : goal.invariant-loop-name
invariant-loop-name g l = record {
  found : option_or (last_value l.key (members_parts_ahead l.name-iterator)) (option_map tape_part l.found) ≡ last_value l.key (members_parts_ahead l.fn.ahead);
  exact : l.steps + length (members_parts_ahead l.name-iterator) ≡ l.fn.steps + length (members_parts_ahead l.fn.ahead);
}
