use Rattle.std.proofs.Common.{◌≡◌, Some, refl, sym, ap, ◌∙◌, rules, Box, Global}
use Rattle.sj_object.specs.Members.{entry_members}
use Rattle.sj_text_core.specs.Reads.{as_members}
use Rattle.sj_document.specs.Document.{document_tree}
use Rattle.sj_document.specs.declared.value.Document.{Object, the_lemmas}
use Rattle.sj_document.proofs.Trees.{Map, tree-Object}
use Rattle.sj_document.proofs.value.Document.as_object_mut.Goals as goal

pub returns-in-Object : goal.returns-in-Object
returns-in-Object g c =
    let t = g.T.KeyText.text_of in (
      (refl, λ w. let b : Box (Map g.row.T.Denot) Global = record c.in-Object.members { value = w } in ap (document_tree t) (let e : _ ≡ Object b = search (rules, the_lemmas) in e) ∙ tree-Object t b, refl),
      record {
        writes_back = tt;
        value = ap (λ m. Some (entry_members (document_tree t) m.entries)) (c.deref_mut.ensures.value ∙ ap (λ b. b.value) c.in-Object.members-is) ∙ sym (ap as_members (ap (document_tree t) c.in-Object.is ∙ tree-Object t c.in-Object.members));
      },
    )
