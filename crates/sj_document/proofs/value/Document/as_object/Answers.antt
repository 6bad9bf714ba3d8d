use Rattle.std.proofs.Common.{Some, sym, ap, ◌∙◌}
use Rattle.sj_text_core.specs.Reads.{as_members}
use Rattle.sj_object.specs.Members.{entry_members}
use Rattle.sj_document.specs.Document.{document_tree}
use Rattle.sj_document.proofs.Trees.{tree-Object}
use Rattle.sj_document.proofs.value.Document.as_object.Goals as goal

pub returns-in-Object : goal.returns-in-Object
returns-in-Object g c =
    let t = g.T.KeyText.text_of in
    ap (λ m. Some (entry_members (document_tree t) m.entries)) c.deref.ensures ∙ sym (ap as_members (ap (document_tree t) c.in-Object.is ∙ tree-Object t c.in-Object.members))
