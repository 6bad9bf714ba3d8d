use Rattle.std.proofs.Common.{map, string_bytes, subst}
use Rattle.sj_text_core.specs.Keep.{keep}
use Rattle.sj_document.specs.Document.{document_tree}
use Rattle.sj_commands.specs.Commands.{Write}
use Rattle.sj_commands.specs.Meant.{step_meant, write_meant}
use Rattle.sj_run.specs.inner.Changed.{Edits}
use Rattle.sj_run.proofs.Kept.{kept_reply, kept_after, kept_refused, short_edit}
use Rattle.sj_run.proofs.root.DocumentRoot.change.Goals as goal

pub returns-in_err-made-clause-short : goal.returns-in_err-made-clause-short
returns-in_err-made-clause-short g c = short_edit (map step_meant c.args.path.now) (write_meant string_bytes c.args.write.now) (keep (document_tree g.T.KeyText.text_of c.args.self.now))

pub returns : goal.returns
returns g c =
    let t = g.T.KeyText.text_of in
    let p = map step_meant c.args.path.now in
    let w = write_meant string_bytes c.args.write.now in
    let v = c.args.self.now in
    let u = document_tree t c.edit_at.new.value in
    let edits : Edits t p w (document_tree t v) u c.edit_at.result = subst (λ (x : Write). Edits t p x (document_tree t v) u c.edit_at.result) c.in_ok-made.ensures c.edit_at.ensures in
    record {
      reply = kept_reply t p w v u c.edit_at.result edits;
      after = kept_after t p w v u c.edit_at.result edits;
      refused = kept_refused t p w v u c.edit_at.result edits;
      short = short_edit p w (keep (document_tree t v));
    }
