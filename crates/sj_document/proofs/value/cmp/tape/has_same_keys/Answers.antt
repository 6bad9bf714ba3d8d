use Rattle.std.proofs.Common.{sym, ap, ◌∙◌}
use Rattle.sj_tape.specs.Members.{keys_ahead}
use Rattle.sj_object.specs.Entries.{entry_texts}
use Rattle.sj_document.specs.Document.{document_tree}
use Rattle.sj_document.proofs.Mixed.{texts_paired}
use Rattle.sj_document.proofs.value.cmp.tape.has_same_keys.Goals as goal

pub loop-key-init : goal.loop-key-init
loop-key-init g c =
    let mine = ap keys_ahead c.into_iter-key-iterator.ensures.into_iter_gives ∙ c.keys-key-items.ensures in
    let theirs = ap entry_texts c.iter-others.ensures ∙ sym (texts_paired (document_tree g.T.KeyText.text_of) c.args.right.now.entries) in
    record {
      on = λ h. sym mine ∙ h ∙ theirs;
      off = λ h. mine ∙ h ∙ sym theirs;
    }
