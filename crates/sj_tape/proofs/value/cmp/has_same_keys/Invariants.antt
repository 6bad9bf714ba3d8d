use Rattle.std.proofs.Common.{◌≡◌}
use Rattle.sj_text_core.specs.Agree.{pair_keys}
use Rattle.sj_text_core.specs.Tree.{paired}
use Rattle.sj_tape.specs.Members.{members, keys_ahead}
use Rattle.sj_tape.proofs.value.cmp.has_same_keys.Given as goal

abbrev pub invariant-loop-key : goal.invariant-loop-key
invariant-loop-key l =
    record {
      on : keys_ahead l.key-iterator ≡ keys_ahead l.others → pair_keys (paired (members l.fn.left)) ≡ pair_keys (paired (members l.fn.right));
      off : pair_keys (paired (members l.fn.left)) ≡ pair_keys (paired (members l.fn.right)) → keys_ahead l.key-iterator ≡ keys_ahead l.others;
    }
