use Rattle.std.proofs.Common.{◌≡◌, rules, Box, Global, Some, sym, ap, ◌∙◌}
use Rattle.std.proofs.lemmas.Result.{on_ok_weaker, on_err_weaker}
use Rattle.sj_text_core.specs.Tree.{obj}
use Rattle.sj_object.specs.Members.{entry_members}
use Rattle.sj_document.specs.Document.{document_tree}
use Rattle.sj_document.specs.declared.value.Document.{Object, the_lemmas}
use Rattle.sj_document.proofs.Trees.{Map, tree-Object}
use Rattle.sj_merge.specs.Merge.{merged_members, target_members}
use Rattle.sj_merge.proofs.in_place.merge_whole.Goals as goal

pub returns-in-Object-clause-merged : goal.returns-in-Object-clause-merged
returns-in-Object-clause-merged g c =
    let t = g.T.KeyText.text_of in
    let m = c.deref_mut.result.now in
    let b : Box (Map g.row.T.Denot) Global = record c.in-Object.into { value = c.merge_all.new.into } in
    let same : document_tree t c.args.target.now ≡ obj (entry_members (document_tree t) m.entries) =
    (ap (document_tree t) c.in-Object.is ∙ tree-Object t c.in-Object.into) ∙ sym (ap (λ n. obj (entry_members (document_tree t) n.entries)) (c.deref_mut.ensures.value ∙ ap (λ b. b.value) c.in-Object.into-is)) in
    on_ok_weaker c.merge_all.result
    (λ h. (ap (document_tree t) (let e : _ ≡ Object b = search (rules, the_lemmas) in e) ∙ tree-Object t b) ∙ ap obj h ∙ ap (λ u. obj (merged_members (target_members (Some u)) (entry_members (document_tree t) c.args.members.entries))) (sym same))
    c.merge_all.ensures.merged

pub returns-in-Object-clause-refused : goal.returns-in-Object-clause-refused
returns-in-Object-clause-refused g c =
    let t = g.T.KeyText.text_of in
    let m = c.deref_mut.result.now in
    let b : Box (Map g.row.T.Denot) Global = record c.in-Object.into { value = c.merge_all.new.into } in
    let same : document_tree t c.args.target.now ≡ obj (entry_members (document_tree t) m.entries) =
    (ap (document_tree t) c.in-Object.is ∙ tree-Object t c.in-Object.into) ∙ sym (ap (λ n. obj (entry_members (document_tree t) n.entries)) (c.deref_mut.ensures.value ∙ ap (λ b. b.value) c.in-Object.into-is)) in
    on_err_weaker c.merge_all.result (λ h. (ap (document_tree t) (let e : _ ≡ Object b = search (rules, the_lemmas) in e) ∙ tree-Object t b) ∙ ap obj h ∙ sym same) c.merge_all.ensures.refused
