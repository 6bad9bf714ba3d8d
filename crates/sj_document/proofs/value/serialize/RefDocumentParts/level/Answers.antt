use Rattle.std.proofs.Common.{sym, ap, ◌∙◌}
use Rattle.sj_text_core.specs.Tree.{obj}
use Rattle.sj_object.specs.Members.{entry_members}
use Rattle.sj_document.specs.Document.{document_tree}
use Rattle.sj_document.proofs.Trees.{tree-Object}
use Rattle.sj_document.proofs.Levels.{members_seen}
use Rattle.sj_document.proofs.value.serialize.RefDocumentParts.level.Goals as goal

pub returns-in-Object : goal.returns-in-Object
returns-in-Object g c =
    let t = g.T.KeyText.text_of in
    ap obj (members_seen t c.iter-in-Object.result) ∙ ap (λ es. obj (entry_members (document_tree t) es)) c.iter-in-Object.ensures ∙ ap (λ m. obj (entry_members (document_tree t) m.entries)) c.deref-in-Object.ensures
    ∙ sym (ap (document_tree t) c.in-Object.is ∙ tree-Object t c.in-Object.members)
