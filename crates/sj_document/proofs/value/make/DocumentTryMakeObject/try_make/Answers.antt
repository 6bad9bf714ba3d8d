use Rattle.std.proofs.Common.{ap, ◌∙◌}
use Rattle.sj_text_core.specs.Tree.{obj}
use Rattle.sj_object.specs.Members.{entry_members}
use Rattle.sj_document.specs.Document.{document_tree}
use Rattle.sj_document.proofs.Trees.{tree-Object}
use Rattle.sj_document.proofs.value.make.DocumentTryMakeObject.try_make.Goals as goal

pub returns : goal.returns
returns g c =
    let t = g.T.KeyText.text_of in
    tree-Object t c.in_ok-new.field-0 ∙ ap (λ m. obj (entry_members (document_tree t) m.entries)) c.in_ok-new.ensures.ok
