use Rattle.std.proofs.Common.{Some, option_map, sym, ap, ◌∙◌}
use Rattle.sj_text_core.specs.Tree.{obj}
use Rattle.sj_object.specs.Members.{entry_members}
use Rattle.sj_document.specs.Document.{document_tree}
use Rattle.sj_document.proofs.Trees.{Map, tree-Object}
use Rattle.sj_merge.specs.MergeDiff.{merge_patch}
use Rattle.sj_merge.proofs.difference.patch_to.Goals as goal

pub returns-in_ok-new-in-Some : goal.returns-in_ok-new-in-Some
returns-in_ok-new-in-Some g c =
    let t = g.T.KeyText.text_of in
    let wanted = ap (document_tree t) c.in-Object.is ∙ tree-Object t c.in-Object.wanted ∙ ap (λ m. obj (entry_members (document_tree t) m.entries)) (sym c.deref.ensures) in
    ap Some (tree-Object t c.in_ok-new-in-Some.field-0 ∙ ap (λ m. obj (entry_members (document_tree t) m.entries)) c.in_ok-new-in-Some.ensures.ok)
    ∙ ap (λ r. option_map obj (option_map (λ (m : Map g.row.T.Denot). entry_members (document_tree t) m.entries) r)) (sym c.in-Some.is) ∙ c.in_ok-patch-in-Object.ensures ∙ ap (merge_patch (Some (document_tree t c.args.from.now))) (sym wanted)

pub returns-in-None : goal.returns-in-None
returns-in-None g c =
    let t = g.T.KeyText.text_of in
    let wanted = ap (document_tree t) c.in-Object.is ∙ tree-Object t c.in-Object.wanted ∙ ap (λ m. obj (entry_members (document_tree t) m.entries)) (sym c.deref.ensures) in
    ap (λ r. option_map obj (option_map (λ (m : Map g.row.T.Denot). entry_members (document_tree t) m.entries) r)) (sym c.in-None.is) ∙ c.in_ok-patch-in-Object.ensures ∙ ap (merge_patch (Some (document_tree t c.args.from.now))) (sym wanted)
