use Rattle.std.proofs.Common.{ap, ◌∙◌, map, string_bytes}
use Rattle.sj_text_core.specs.Tree.{items_len, members_len, items_from}
use Rattle.sj_object.specs.Members.{entry_members}
use Rattle.sj_object.proofs.Shown.{length-members}
use Rattle.sj_document.specs.Document.{document_tree}
use Rattle.sj_document.proofs.Trees.{tree-Object, tree-Array}
use Rattle.sj_document.proofs.Arrays.{length-items}
use Rattle.sj_c.proofs.Lens.{items_told, members_told}
use Rattle.sj_c.proofs.finds.len_of.Goals as goal

pub returns-in-Array-clause-items : goal.returns-in-Array-clause-items
returns-in-Array-clause-items c =
    let v = c.deref.result.now in
    items_told _ _ _ (ap (document_tree string_bytes) c.in-Array.is ∙ tree-Array string_bytes c.in-Array.items)
    (c.len-in-Array.ensures ∙ v.ok.0 ∙ length-items (document_tree string_bytes) v.items ∙ ap (λ v. items_len (items_from (map (document_tree string_bytes) v.items))) c.deref.ensures)

pub returns-in-Object-clause-members : goal.returns-in-Object-clause-members
returns-in-Object-clause-members c =
    let m = c.deref-in-Object.result.now in
    members_told _ _ _ (ap (document_tree string_bytes) c.in-Object.is ∙ tree-Object string_bytes c.in-Object.members)
    (c.len-in-Object.ensures ∙ length-members (document_tree string_bytes) m.entries ∙ ap (λ m. members_len (entry_members (document_tree string_bytes) m.entries)) c.deref-in-Object.ensures)
