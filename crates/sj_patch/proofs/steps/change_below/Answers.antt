use Rattle.std.proofs.Common.{map, string_bytes, subst, ap}
use Rattle.sj_document.specs.Document.{document_tree}
use Rattle.sj_patch.specs.inner.Changed.{Returns}
use Rattle.sj_patch.proofs.Within.{changed_below, changed_missing}
use Rattle.sj_patch.proofs.steps.change_below.Goals as goal

pub returns-in-Ok : goal.returns-in-Ok
returns-in-Ok g c =
    let t = g.T.KeyText.text_of in
    let h = c.in-Ok.ensures.changed in
    changed_below t c.args.change (map string_bytes c.args.path.now) c.args.token.now (document_tree t c.args.document.now) (document_tree t c.update_in.new.value) (document_tree t h.0) (document_tree t h.1) c.in-Ok.answer h.2 h.4 h.3

pub returns-in-Err : goal.returns-in-Err
returns-in-Err g c =
    let t = g.T.KeyText.text_of in
    let h = c.in-Err.ensures.absent in (
      h.2,
      (
        changed_missing t c.args.change (map string_bytes c.args.path.now) c.args.token.now (document_tree t c.args.document.now) h.1,
        subst (λ b. Returns t b c.given.result) (ap (λ b. b.change) h.0) c.given.ensures,
      ),
    )
