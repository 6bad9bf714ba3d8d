use Rattle.std.proofs.Common.{◌≡◌, ℕ, List, true, drop}
use Rattle.sj_text_core.specs.Agree.{pair_keys}
use Rattle.sj_text_core.specs.inner.Agree.{HasTexts}
use Rattle.sj_text_core.specs.Keep.{is_seen}
use Rattle.sj_tape.specs.Members.{members}
use Rattle.sj_text_core.specs.Tree.{paired}
use Rattle.sj_object.specs.Entries.{entries_of, entry_texts}
use Rattle.sj_object.specs.Members.{entry_members}
use Rattle.sj_document.specs.Document.{document_tree}
use Rattle.sj_document.proofs.value.cmp.tape.has_keys.Given as goal

abbrev pub invariant-loop-key : goal.invariant-loop-key
invariant-loop-key g l =
    let u = g.T.KeyText.text_of in
    let mine = pair_keys (paired (members l.fn.left)) in
    record {
      can : (goal.iterator-loop-key g).can_next l.key-iterator;
      ends : (goal.iterator-loop-key g).is_finite l.key-iterator;
      rest : ((k : List ℕ) → is_seen k (drop l.known (entry_texts (entries_of u l.key-iterator))) ≡ true → is_seen k mine ≡ true) → HasTexts (paired (members l.fn.left)) (paired (entry_members (document_tree u) l.fn.right.entries));
      own : (k : List ℕ) → is_seen k (entry_texts (entries_of u l.key-iterator)) ≡ true → is_seen k (pair_keys (paired (entry_members (document_tree u) l.fn.right.entries))) ≡ true;
    }
