use Rattle.std.proofs.lemmas.Result.{on_ok_weaker, on_err_weaker}
use Rattle.sj_document.specs.Document.{document_tree, with_item}
use Rattle.sj_path.proofs.Changed.{made_there, put_back}
use Rattle.sj_path.proofs.edits.push.Goals as goal

pub returns-in-Ok : goal.returns-in-Ok
returns-in-Ok g c =
    let t = g.T.KeyText.text_of in
    let h = c.in-Ok.ensures.changed in
    let ks = c.args.pointer.now in
    let old = document_tree t c.args.value.now in
    let new = document_tree t c.update.new.value in
    record {
      after = on_ok_weaker c.in-Ok.answer (made_there ks (document_tree t h.0) (document_tree t h.1) old new h.2 h.4 (with_item (document_tree t c.args.new))) h.3.made;
      refused = on_err_weaker c.in-Ok.answer (put_back ks (document_tree t h.0) (document_tree t h.1) old new h.2 h.4) h.3.refused;
      returned = h.3.returned;
      kind = rw h.2 h.3.kind;
      array = rw h.2 h.3.array;
    }
