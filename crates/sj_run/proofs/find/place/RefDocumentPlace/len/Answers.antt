use Rattle.std.proofs.Common.{sym, ap, ◌∙◌, map}
use Rattle.sj_text_core.specs.Tree.{list, obj, items_from}
use Rattle.sj_object.specs.Members.{entry_members}
use Rattle.sj_object.proofs.Shown.{length-members}
use Rattle.sj_document.specs.Document.{document_tree}
use Rattle.sj_document.proofs.Arrays.{length-items}
use Rattle.sj_document.proofs.Trees.{tree-Object, tree-Array}
use Rattle.sj_run.specs.Answers.{len_reply}
use Rattle.sj_run.specs.Replies.{count}
use Rattle.sj_run.proofs.find.place.RefDocumentPlace.len.Goals as goal

pub returns-in-Array : goal.returns-in-Array
returns-in-Array g c =
    let t = g.T.KeyText.text_of in
    let v = c.deref.result.now in
    ap count (c.len.ensures ∙ v.ok.0 ∙ length-items (document_tree t) v.items)
    ∙ ap (λ v. len_reply (list (items_from (map (document_tree t) v.items)))) c.deref.ensures
    ∙ ap len_reply (sym (ap (document_tree t) c.in-Array.is ∙ tree-Array t c.in-Array.items))

pub returns-in-Object : goal.returns-in-Object
returns-in-Object g c =
    let t = g.T.KeyText.text_of in
    let m = c.deref-in-Object.result.now in
    ap count (c.len-in-Object.ensures ∙ length-members (document_tree t) m.entries)
    ∙ ap (λ m. len_reply (obj (entry_members (document_tree t) m.entries))) c.deref-in-Object.ensures
    ∙ ap len_reply (sym (ap (document_tree t) c.in-Object.is ∙ tree-Object t c.in-Object.members))
