use Rattle.std.proofs.Common.{◌≡◌, ◌+◌, sym, ap, ◌∙◌, rules, arith, Box, Vec, Global}
use Rattle.sj_document.specs.inner.Nodes.{nodes, nodes_of, entry_nodes}
use Rattle.sj_document.specs.declared.value.Document.{Document, Array, Object, the_lemmas}
use Rattle.sj_document.proofs.Trees.{Map}
use Rattle.sj_document.proofs.Nodes.{nodes-Array, nodes-Object, of_items, items_popped, none_popped, items_zero, still_none}
use Rattle.sj_document.proofs.value.Document.pop_part.Goals as goal

pub returns-in-Array-clause-fewer : goal.returns-in-Array-clause-fewer
returns-in-Array-clause-fewer g c =
    let b : Box (Vec (Document g.row.T.Denot) Global) Global = record c.in-Array.items { value = c.pop.new.self } in
    let same : c.deref_mut.result.now ≡ c.in-Array.items.value = c.deref_mut.ensures.value ∙ ap (λ b. b.value) c.in-Array.items-is in
    ap nodes c.in-Array.is ∙ nodes-Array c.in-Array.items ∙ ap (λ v. of_items v.items + 1) (sym same)
    ∙ items_popped c.deref_mut.result.now.items c.pop.new.self.items c.pop.result c.pop.ensures.items
    ∙ ap (λ n. n + nodes_of c.pop.result) (sym (ap nodes (let e : _ ≡ Array b = search (rules, the_lemmas) in e) ∙ nodes-Array b))

pub returns-in-Array-clause-none : goal.returns-in-Array-clause-none
returns-in-Array-clause-none g c =
    let b : Box (Vec (Document g.row.T.Denot) Global) Global = record c.in-Array.items { value = c.pop.new.self } in
    none_popped c.pop.result c.deref_mut.result.now.len c.pop.new.self.len _ c.pop.ensures.cases (λ z. ap nodes (let e : _ ≡ Array b = search (rules, the_lemmas) in e) ∙ nodes-Array b ∙ items_zero c.pop.new.self.items (sym c.pop.new.self.ok.0 ∙ z))

pub returns-in-Object-clause-fewer : goal.returns-in-Object-clause-fewer
returns-in-Object-clause-fewer g c =
    let b : Box (Map g.row.T.Denot) Global = record c.in-Object.members { value = c.pop_value.new.members } in
    let same : c.deref_mut-in-Object.result.now ≡ c.in-Object.members.value = c.deref_mut-in-Object.ensures.value ∙ ap (λ b. b.value) c.in-Object.members-is in
    ap nodes c.in-Object.is ∙ nodes-Object c.in-Object.members ∙ ap (λ m. entry_nodes m.entries + 1) (sym same)
    ∙ omega (arith, c.pop_value.ensures.fewer)
    ∙ ap (λ n. n + nodes_of c.pop_value.result) (sym (ap nodes (let e : _ ≡ Object b = search (rules, the_lemmas) in e) ∙ nodes-Object b))

pub returns-in-Object-clause-none : goal.returns-in-Object-clause-none
returns-in-Object-clause-none g c =
    let b : Box (Map g.row.T.Denot) Global = record c.in-Object.members { value = c.pop_value.new.members } in
    still_none c.pop_value.result (entry_nodes c.pop_value.new.members.entries) _ (λ z. ap nodes (let e : _ ≡ Object b = search (rules, the_lemmas) in e) ∙ nodes-Object b ∙ omega (arith, z)) c.pop_value.ensures.none
