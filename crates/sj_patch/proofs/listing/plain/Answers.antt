use Rattle.std.proofs.Common.{rules, ◌≡◌, ◌∙◌, ap}
use Rattle.sj_text_core.specs.Tree.{obj}
use Rattle.sj_object.specs.Members.{entry_members}
use Rattle.sj_document.specs.Document.{document_tree}
use Rattle.sj_document.proofs.Trees.{tree-Object}
use Rattle.sj_patch.proofs.listing.plain.Goals as goal

pub returns : goal.returns
returns g c =
    let t = g.T.KeyText.text_of in
    let boxed = c.in_ok-new.field-0 in
    let same : boxed.value ≡ c.in_ok-members.members = search rules in
    tree-Object t boxed ∙ ap (λ m. obj (entry_members (document_tree t) m.entries)) same ∙ ap obj c.in_ok-members.ensures
