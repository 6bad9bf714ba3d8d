use Rattle.std.proofs.Common.{map}
use Rattle.sj_document.specs.Document.{document_tree}
use Rattle.sj_commands.specs.Meant.{step_meant, write_meant}
use Rattle.sj_run.proofs.Edits.{answered_there, answered_nowhere}
use Rattle.sj_run.proofs.change.edit.edit_far.Goals as goal

pub returns-in-Ok : goal.returns-in-Ok
returns-in-Ok g c =
    let t = g.T.KeyText.text_of in
    let h = c.in-Ok.ensures.changed in
    answered_there t (map step_meant c.args.path.now) (write_meant t c.args.write) (document_tree t c.args.value.now) (document_tree t h.0) (document_tree t c.update_at.new.value) (document_tree t h.1) c.in-Ok.changed h.2 h.4 h.3

pub returns : goal.returns
returns g c =
    let t = g.T.KeyText.text_of in
    let h = c.in-Err.ensures.absent in
    answered_nowhere t (map step_meant c.args.path.now) (write_meant t c.args.write) (document_tree t c.args.value.now) (document_tree t c.update_at.new.value) h.1 h.2
