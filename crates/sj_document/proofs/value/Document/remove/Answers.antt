use Rattle.std.proofs.Common.{◌≡◌, option_map, sym, ap, ◌∙◌, rules, Box, Global}
use Rattle.sj_text_core.specs.Tree.{obj}
use Rattle.sj_text_core.specs.Find.{find}
use Rattle.sj_object.specs.Edits.{lookup, cut_entry}
use Rattle.sj_object.specs.Members.{entry_members}
use Rattle.sj_object.proofs.Shown.{lookup-entry_members, entry_members-cut}
use Rattle.sj_document.specs.Document.{document_tree, without_member}
use Rattle.sj_document.specs.declared.value.Document.{Object, the_lemmas}
use Rattle.sj_document.proofs.Trees.{Map, tree-Object}
use Rattle.sj_document.proofs.value.Document.remove.Goals as goal

pub returns-in-Object-clause-answer : goal.returns-in-Object-clause-answer
returns-in-Object-clause-answer g c =
    let t = g.T.KeyText.text_of in
    let k = c.args.key.now in
    ap (option_map (document_tree t)) (c.remove.ensures.answer ∙ ap (λ m. lookup k m.entries) (c.deref_mut.ensures.value ∙ ap (λ b. b.value) c.in-Object.members-is)) ∙ lookup-entry_members (document_tree t) k c.in-Object.members.value.entries
    ∙ sym (ap (find k) (ap (document_tree t) c.in-Object.is ∙ tree-Object t c.in-Object.members))

pub returns-in-Object-clause-after : goal.returns-in-Object-clause-after
returns-in-Object-clause-after g c =
    let t = g.T.KeyText.text_of in
    let k = c.args.key.now in
    let b : Box (Map g.row.T.Denot) Global = record c.in-Object.members { value = c.remove.new.self } in
    ap (document_tree t) (let e : _ ≡ Object b = search (rules, the_lemmas) in e) ∙ tree-Object t b
    ∙ ap (λ es. obj (entry_members (document_tree t) es)) (c.remove.ensures.entries ∙ ap (λ m. cut_entry k m.entries) (c.deref_mut.ensures.value ∙ ap (λ b. b.value) c.in-Object.members-is))
    ∙ ap obj (entry_members-cut (document_tree t) k c.in-Object.members.value.entries)
    ∙ sym (ap (without_member k) (ap (document_tree t) c.in-Object.is ∙ tree-Object t c.in-Object.members))
