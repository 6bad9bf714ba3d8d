use Rattle.std.proofs.Common.{◌≡◌, option_map, sym, subst, ap, ◌∙◌, rules, Box, Global}
use Rattle.std.specs.Option.{IsSome}
use Rattle.sj_text_core.specs.Tree.{obj}
use Rattle.sj_text_core.specs.Find.{find}
use Rattle.sj_object.specs.Edits.{lookup, put_entry}
use Rattle.sj_object.specs.Members.{entry_members}
use Rattle.sj_object.proofs.Shown.{lookup-entry_members, entry_members-put}
use Rattle.sj_document.specs.Document.{document_tree, with_member}
use Rattle.sj_document.specs.declared.value.Document.{Object, the_lemmas}
use Rattle.sj_document.proofs.Trees.{Map, tree-Object, some_before}
use Rattle.sj_document.proofs.value.Document.insert.Goals as goal

pub returns-in-Ok-clause-answer : goal.returns-in-Ok-clause-answer
returns-in-Ok-clause-answer g c =
    let t = g.T.KeyText.text_of in
    let k = t c.args.key in
    ap (option_map (document_tree t)) (c.in-Ok.ensures.answer ∙ ap (λ m. lookup k m.entries) (c.deref_mut.ensures.value ∙ ap (λ b. b.value) c.in-Object.members-is)) ∙ lookup-entry_members (document_tree t) k c.in-Object.members.value.entries
    ∙ sym (ap (find k) (ap (document_tree t) c.in-Object.is ∙ tree-Object t c.in-Object.members))

pub returns-in-Ok-clause-after : goal.returns-in-Ok-clause-after
returns-in-Ok-clause-after g c =
    let t = g.T.KeyText.text_of in
    let k = t c.args.key in
    let b : Box (Map g.row.T.Denot) Global = record c.in-Object.members { value = c.insert.new.self } in
    ap (document_tree t) (let e : _ ≡ Object b = search (rules, the_lemmas) in e) ∙ tree-Object t b
    ∙ ap (λ es. obj (entry_members (document_tree t) es)) (c.in-Ok.ensures.entries ∙ ap (λ m. put_entry (c.args.key, k) c.args.value m.entries) (c.deref_mut.ensures.value ∙ ap (λ b. b.value) c.in-Object.members-is))
    ∙ ap obj (entry_members-put (document_tree t) (c.args.key, k) c.args.value c.in-Object.members.value.entries)
    ∙ sym (ap (with_member k (document_tree t c.args.value)) (ap (document_tree t) c.in-Object.is ∙ tree-Object t c.in-Object.members))

pub returns-in-Err-clause-succeeds : goal.returns-in-Err-clause-succeeds
returns-in-Err-clause-succeeds g c h =
    let t = g.T.KeyText.text_of in
    let k = t c.args.key in
    let there = ap (find k) (ap (document_tree t) c.in-Object.is ∙ tree-Object t c.in-Object.members) ∙ sym (lookup-entry_members (document_tree t) k c.in-Object.members.value.entries)
    ∙ sym (ap (λ m. option_map (document_tree t) (lookup k m.entries)) (c.deref_mut.ensures.value ∙ ap (λ b. b.value) c.in-Object.members-is)) in
    c.in-Err.ensures.succeeds (some_before (document_tree t) _ (subst IsSome there h))
