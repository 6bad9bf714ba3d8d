use Rattle.std.proofs.Common.{◌≡◌, ◌<◌, ◌+◌, length, get_or, sym, ap, ◌∙◌, rules, arith, Some, Box, Vec, Global}
use Rattle.std.specs.Vec.{with_item}
use Rattle.sj_object.specs.Edits.{nth_value, with_value_at}
use Rattle.sj_document.specs.inner.Nodes.{nodes, entry_nodes}
use Rattle.sj_document.specs.declared.value.Document.{Document, Array, Object, the_lemmas}
use Rattle.sj_document.proofs.Trees.{Map}
use Rattle.sj_document.proofs.Nodes.{nodes-Array, nodes-Object, of_items, items_pos, items_swapped, items_below, members_swapped, members_below}
use Rattle.sj_document.proofs.value.Document.swap_first.Goals as goal

pub returns-in-Array-clause-same : goal.returns-in-Array-clause-same
returns-in-Array-clause-same g c =
    let v = c.deref_mut.result.now in
    let b : Box (Vec (Document g.row.T.Denot) Global) Global = record c.in-Array.items { value = with_item v 0 c.replace.new.dest } in
    let same : v ≡ c.in-Array.items.value = c.deref_mut.ensures.value ∙ ap (λ b. b.value) c.in-Array.items-is in
    let n : nodes c.args.self.now ≡ of_items v.items + 1 = ap nodes c.in-Array.is ∙ nodes-Array c.in-Array.items ∙ ap (λ v. of_items v.items + 1) (sym same) in
    let d : c.replace.result ≡ get_or v.items 0 c.replace.result = search rules in
    let x : nodes c.replace.new.dest ≡ nodes c.args.other = ap nodes c.replace.ensures.after in
    let l : 0 < length v.items = items_pos v.items (omega (arith, n, c.requires)) in
    let s = items_swapped v.items c.replace.result c.replace.new.dest l d in
    ap (λ n. n + nodes c.replace.result) (ap nodes (let e : _ ≡ Array b = search (rules, the_lemmas) in e) ∙ nodes-Array b) ∙ s ∙ (λ i. sym n i + x i)

pub returns-in-Array-clause-part : goal.returns-in-Array-clause-part
returns-in-Array-clause-part g c =
    let v = c.deref_mut.result.now in
    let same : v ≡ c.in-Array.items.value = c.deref_mut.ensures.value ∙ ap (λ b. b.value) c.in-Array.items-is in
    let n : nodes c.args.self.now ≡ of_items v.items + 1 = ap nodes c.in-Array.is ∙ nodes-Array c.in-Array.items ∙ ap (λ v. of_items v.items + 1) (sym same) in
    let d : c.replace.result ≡ get_or v.items 0 c.replace.result = search rules in
    let l : 0 < length v.items = items_pos v.items (omega (arith, n, c.requires)) in
    omega (arith, n, items_below v.items c.replace.result l d)

pub returns-in-Object-clause-same : goal.returns-in-Object-clause-same
returns-in-Object-clause-same g c =
    let m = c.deref_mut-in-Object.result.now in
    let b : Box (Map g.row.T.Denot) Global = record c.in-Object.members { value = with_value_at m 0 c.replace-in-Object.new.dest } in
    let same : m ≡ c.in-Object.members.value = c.deref_mut-in-Object.ensures.value ∙ ap (λ b. b.value) c.in-Object.members-is in
    let n : nodes c.args.self.now ≡ entry_nodes m.entries + 1 = ap nodes c.in-Object.is ∙ nodes-Object c.in-Object.members ∙ ap (λ m. entry_nodes m.entries + 1) (sym same) in
    let d : nth_value 0 m.entries ≡ Some c.replace-in-Object.result = c.value_at_mut.ensures.value ∙ ap (λ v. Some v) (sym c.replace-in-Object.ensures.value) in
    let x : nodes c.replace-in-Object.new.dest ≡ nodes c.args.other = ap nodes c.replace-in-Object.ensures.after in
    ap (λ n. n + nodes c.replace-in-Object.result) (ap nodes (let e : _ ≡ Object b = search (rules, the_lemmas) in e) ∙ nodes-Object b)
    ∙ members_swapped m.entries c.replace-in-Object.result c.replace-in-Object.new.dest d ∙ (λ i. sym n i + x i)

pub returns-in-Object-clause-part : goal.returns-in-Object-clause-part
returns-in-Object-clause-part g c =
    let m = c.deref_mut-in-Object.result.now in
    let same : m ≡ c.in-Object.members.value = c.deref_mut-in-Object.ensures.value ∙ ap (λ b. b.value) c.in-Object.members-is in
    let n : nodes c.args.self.now ≡ entry_nodes m.entries + 1 = ap nodes c.in-Object.is ∙ nodes-Object c.in-Object.members ∙ ap (λ m. entry_nodes m.entries + 1) (sym same) in
    let d : nth_value 0 m.entries ≡ Some c.replace-in-Object.result = c.value_at_mut.ensures.value ∙ ap (λ v. Some v) (sym c.replace-in-Object.ensures.value) in
    omega (arith, n, members_below m.entries c.replace-in-Object.result d)
