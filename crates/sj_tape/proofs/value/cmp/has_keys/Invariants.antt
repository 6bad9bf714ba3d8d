use Rattle.std.proofs.Common.{◌≡◌, ℕ, List, true, drop}
use Rattle.sj_text_core.specs.Agree.{pair_keys}
use Rattle.sj_text_core.specs.inner.Agree.{HasTexts}
use Rattle.sj_text_core.specs.Keep.{is_seen}
use Rattle.sj_tape.specs.Members.{members, keys_ahead}
use Rattle.sj_text_core.specs.Tree.{paired}
use Rattle.sj_tape.proofs.value.cmp.has_keys.Given as goal

abbrev pub invariant-loop-key : goal.invariant-loop-key
invariant-loop-key l =
    let mine = pair_keys (paired (members l.fn.left)) in
    record {
      rest : ((k : List ℕ) → is_seen k (drop l.known (keys_ahead l.key-iterator)) ≡ true → is_seen k mine ≡ true) → HasTexts (paired (members l.fn.left)) (paired (members l.fn.right));
      own : (k : List ℕ) → is_seen k (keys_ahead l.key-iterator) ≡ true → is_seen k (pair_keys (paired (members l.fn.right))) ≡ true;
    }
