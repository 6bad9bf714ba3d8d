use Rattle.std.proofs.Common.{Some, sym, ap, ◌∙◌}
use Rattle.sj_text_core.proofs.Writes.{set_at-missing}
use Rattle.sj_document.specs.Document.{document_tree}
use Rattle.sj_pointer.specs.Pointed.{path_of, set_pointed}
use Rattle.sj_path.proofs.write.replace.Goals as goal

pub returns-in-Ok : goal.returns-in-Ok
returns-in-Ok g c =
    let t = g.T.KeyText.text_of in
    let h = c.in-Ok.ensures.changed in
    record {
      before = ap (λ v. Some (document_tree t v)) h.3.0 ∙ sym h.2;
      after = h.4 ∙ ap (λ w. set_pointed c.args.pointer.now (document_tree t w) (document_tree t c.args.value.now)) h.3.1;
      kept = tt;
      back = tt;
    }

pub returns-in-Err : goal.returns-in-Err
returns-in-Err g c =
    let t = g.T.KeyText.text_of in
    let h = c.in-Err.ensures.absent in
    record {
      before = sym h.1;
      after = h.2 ∙ sym (set_at-missing (path_of c.args.pointer.now) (document_tree t c.args.new) (document_tree t c.args.value.now) h.1);
      kept = h.2;
      back = ap (λ b. b.value) h.0;
    }
