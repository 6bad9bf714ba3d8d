use Rattle.std.proofs.Common.{sym, ap, ◌∙◌}
use Rattle.std.specs.Vec.{vec_capacity}
use Rattle.sj_text_core.specs.Tree.{obj}
use Rattle.sj_object.specs.Members.{entry_members}
use Rattle.sj_object.specs.Rooms.{places}
use Rattle.sj_document.specs.Document.{document_tree}
use Rattle.sj_patch.specs.inner.Changed.{gaps_filled}
use Rattle.sj_patch.proofs.Gathered.{restored_all-seen, items_in_object}
use Rattle.sj_patch.proofs.gaps.fill_members.Goals as goal

pub returns-in_default : goal.returns-in_default
returns-in_default g c =
    let t = g.T.KeyText.text_of in
    let ms = entry_members (document_tree t) c.args.members.now.entries in
    sym (ap (λ gs. gaps_filled t gs (obj ms)) c.in_default.is ∙ items_in_object t (vec_capacity c.in_default.field-0) c.in_default.field-1.items ms)

pub returns : goal.returns
returns g c =
    let t = g.T.KeyText.text_of in
    let es = c.args.members.now.entries in
    ap (λ es. obj (entry_members (document_tree t) es)) c.restore_all.ensures.entries ∙ restored_all-seen t (places c.in-Members.room) c.in-Members.taken.items es
    ∙ sym (ap (λ gs. gaps_filled t gs (obj (entry_members (document_tree t) es))) c.in-Members.is)
