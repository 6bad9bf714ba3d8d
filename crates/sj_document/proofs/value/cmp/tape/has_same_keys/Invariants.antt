use Rattle.std.proofs.Common.{◌≡◌}
use Rattle.sj_text_core.specs.Agree.{pair_keys}
use Rattle.sj_text_core.specs.Tree.{paired}
use Rattle.sj_tape.specs.Members.{members, keys_ahead}
use Rattle.sj_object.specs.Entries.{entries_of, entry_texts}
use Rattle.sj_object.specs.Members.{entry_members}
use Rattle.sj_document.specs.Document.{document_tree}
use Rattle.sj_document.proofs.value.cmp.tape.has_same_keys.Given as goal

abbrev pub invariant-loop-key : goal.invariant-loop-key
invariant-loop-key g l =
    let t = g.T.KeyText.text_of in
    let mine = pair_keys (paired (members l.fn.left)) in
    let theirs = pair_keys (paired (entry_members (document_tree t) l.fn.right.entries)) in
    record {
      on : keys_ahead l.key-iterator ≡ entry_texts (entries_of t l.others) → mine ≡ theirs;
      off : mine ≡ theirs → keys_ahead l.key-iterator ≡ entry_texts (entries_of t l.others);
    }
