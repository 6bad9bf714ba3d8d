use Rattle.std.proofs.Common.{◌≡◌, ◌+◌}
use Rattle.sj_tape.specs.inner.Lookup.{first_value, keys_compared}
use Rattle.sj_tape.specs.Members.{members_parts_ahead}
use Rattle.sj_tape.proofs.search.first_plain.Given as goal

abbrev pub invariant-loop-name : goal.invariant-loop-name
invariant-loop-name g l = record {
  found : first_value l.key (members_parts_ahead l.name-iterator) ≡ first_value l.key (members_parts_ahead l.fn.ahead);
  exact : l.steps + keys_compared l.key (members_parts_ahead l.name-iterator) ≡ l.fn.steps + keys_compared l.key (members_parts_ahead l.fn.ahead);
}
