use Rattle.std.proofs.lemmas.Result.{on_err_weaker}
use Rattle.sj_document.specs.Document.{document_tree, without_member}
use Rattle.sj_path.proofs.Changed.{made_there, put_back}
use Rattle.sj_path.proofs.edits.remove.Goals as goal

pub returns-in-Ok : goal.returns-in-Ok
returns-in-Ok g c =
    let t = g.T.KeyText.text_of in
    let h = c.in-Ok.ensures.changed in
    let ks = c.args.pointer.now in
    let old = document_tree t c.args.value.now in
    let new = document_tree t c.update.new.value in
    record {
      answer = rw h.2 h.3.answer;
      after = made_there ks (document_tree t h.0) (document_tree t h.1) old new h.2 h.4 (without_member c.args.key.now) h.3.made;
      refused = on_err_weaker c.in-Ok.answer (put_back ks (document_tree t h.0) (document_tree t h.1) old new h.2 h.4) h.3.refused;
      kind = rw h.2 h.3.kind;
      object = rw h.2 h.3.object;
    }
