use Rattle.std.proofs.Common.{map, string_bytes, sym, ◌∙◌}
use Rattle.std.specs.Prelude.{⊤}
use Rattle.sj_document.specs.Document.{document_tree}
use Rattle.sj_patch.specs.inner.Changed.{undone_at}
use Rattle.sj_patch.proofs.Within.{refuses_as}
use Rattle.sj_patch.proofs.Logged.{put-added, filled_back}
use Rattle.sj_patch.proofs.steps.put_taken.Goals as goal

pub returns-in-Ok-clause-ok : goal.returns-in-Ok-clause-ok
returns-in-Ok-clause-ok g c =
    let t = g.T.KeyText.text_of in
    sym (put-added t c.args.gone.taken (map string_bytes c.args.path.now) (document_tree t c.args.document.now)) ∙ c.in-Ok.ensures.made

pub returns-in-Ok-clause-undo : goal.returns-in-Ok-clause-undo
returns-in-Ok-clause-undo g c =
    let t = g.T.KeyText.text_of in
    let done = c.in-Ok.done in
    filled_back t c.args.gone.undo done.undo (map string_bytes c.args.from.now) (map string_bytes c.args.path.now) (document_tree t done.taken) (document_tree t c.args.gone.taken) (document_tree t c.args.document.now) (document_tree t c.change_to.new.document) c.in-Ok.ensures.undo c.in-Ok.ensures.answer

pub returns-in-Err-clause-fault : goal.returns-in-Err-clause-fault
returns-in-Err-clause-fault g c =
    let t = g.T.KeyText.text_of in
    refuses_as ⊤ c.in-Err.refused.why _ _ (sym (put-added t c.args.gone.taken (map string_bytes c.args.path.now) (document_tree t c.args.document.now))) c.in-Err.ensures.1.0

pub returns-in-Err-clause-undo : goal.returns-in-Err-clause-undo
returns-in-Err-clause-undo g c =
    let t = g.T.KeyText.text_of in
    let h = c.in-Err.ensures in
    (λ j. undone_at t c.args.gone.undo (document_tree t (h.1.1 j)) (map string_bytes c.args.from.now) (h.0 j))
