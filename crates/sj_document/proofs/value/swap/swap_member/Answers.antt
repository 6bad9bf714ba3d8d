use Rattle.std.proofs.Common.{◌≡◌, Some, None, option_map, refl, sym, ap, ◌∙◌, rules, Box, Global}
use Rattle.sj_text_core.specs.Tree.{obj}
use Rattle.sj_text_core.specs.Find.{find}
use Rattle.sj_text_core.specs.Edits as members
use Rattle.sj_text_core.specs.Paths.{by_key, set_found}
use Rattle.sj_object.specs.Edits.{lookup, with_value}
use Rattle.sj_object.specs.Members.{entry_members}
use Rattle.sj_object.proofs.Shown.{lookup-entry_members, entry_members-set_value}
use Rattle.sj_document.specs.Document.{document_tree}
use Rattle.sj_document.specs.declared.value.Document.{Object, the_lemmas}
use Rattle.sj_document.proofs.Trees.{Map, tree-Object}
use Rattle.sj_document.proofs.value.swap.swap_member.Goals as goal

pub returns-in-Some : goal.returns-in-Some
returns-in-Some g c =
    let t = g.T.KeyText.text_of in
    let k = c.args.key.now in
    let m = c.deref_mut.result.now in
    let b : Box (Map g.row.T.Denot) Global = record c.in-Object.members { value = with_value m k c.replace.new.dest } in
    let same : m ≡ c.in-Object.members.value = c.deref_mut.ensures.value ∙ ap (λ b. b.value) c.in-Object.members-is in
    let n : document_tree t c.args.value.now ≡ obj (entry_members (document_tree t) m.entries) = ap (document_tree t) c.in-Object.is ∙ tree-Object t c.in-Object.members ∙ ap (λ (x : Map g.row.T.Denot). obj (entry_members (document_tree t) x.entries)) (sym same) in
    let l : lookup k m.entries ≡ Some c.replace.result = sym c.in-Some.ensures.value ∙ ap (λ v. Some v) (sym c.replace.ensures.value) in (
      ap (find k) n ∙ sym (lookup-entry_members (document_tree t) k m.entries) ∙ ap (option_map (document_tree t)) l,
      ap (document_tree t) (let e : _ ≡ Object b = search (rules, the_lemmas) in e) ∙ tree-Object t b ∙ ap obj (entry_members-set_value (document_tree t) k c.replace.new.dest c.replace.result m.entries l)
          ∙ (λ j. obj (members.put k (document_tree t (c.replace.ensures.after j)) (entry_members (document_tree t) m.entries))) ∙ sym (ap (set_found (by_key k) (document_tree t c.args.other)) n),
    )

pub returns-in-None : goal.returns-in-None
returns-in-None g c =
    let t = g.T.KeyText.text_of in
    let k = c.args.key.now in
    let m = c.deref_mut.result.now in
    let b : Box (Map g.row.T.Denot) Global = record c.in-Object.members { value = m } in
    let same : m ≡ c.in-Object.members.value = c.deref_mut.ensures.value ∙ ap (λ b. b.value) c.in-Object.members-is in
    let n : document_tree t c.args.value.now ≡ obj (entry_members (document_tree t) m.entries) = ap (document_tree t) c.in-Object.is ∙ tree-Object t c.in-Object.members ∙ ap (λ (x : Map g.row.T.Denot). obj (entry_members (document_tree t) x.entries)) (sym same) in
    let l : lookup k m.entries ≡ None = sym c.in-None.ensures.value in (
      ap (find k) n ∙ sym (lookup-entry_members (document_tree t) k m.entries) ∙ ap (option_map (document_tree t)) l,
      ap (document_tree t) (let e : _ ≡ Object b = search (rules, the_lemmas) in e) ∙ tree-Object t b ∙ sym n,
      refl,
    )
