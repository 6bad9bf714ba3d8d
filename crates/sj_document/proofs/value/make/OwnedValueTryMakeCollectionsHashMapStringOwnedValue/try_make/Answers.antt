use Rattle.std.proofs.Common.{string_bytes, ap, ◌∙◌}
use Rattle.sj_text_core.specs.Tree.{obj}
use Rattle.sj_object.specs.Members.{entry_members}
use Rattle.sj_document.specs.Document.{document_tree}
use Rattle.sj_document.proofs.Trees.{tree-Object}
use Rattle.sj_document.proofs.value.make.OwnedValueTryMakeCollectionsHashMapStringOwnedValue.try_make.Goals as goal

pub returns : goal.returns
returns g c =
    let pairs = c.in_ok-in_order.ensures in (
      c.in_ok-in_order.field-0.items,
      pairs.permutation,
      pairs.sorted,
      tree-Object string_bytes c.in_ok-new.field-0 ∙ ap (λ m. obj (entry_members (document_tree string_bytes) m.entries)) c.in_ok-new.ensures.ok ∙ ap obj c.in_ok-members.ensures,
    )
