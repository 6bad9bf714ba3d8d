use Rattle.std.proofs.Common.{◌≡◌, ◌<◌, ◌+◌, [], length, subst, ap, ◌∙◌, arith}
use Rattle.sj_document.specs.inner.Nodes.{nodes}
use Rattle.sj_document.proofs.Nodes.{nodes-Array, nodes-Object, of_items, items_some, items_pos, members_decide}
use Rattle.std.specs.Bool.{IsTrue}
use Rattle.sj_document.proofs.value.Document.has_parts.Goals as goal

pub returns-in-Array : goal.returns-in-Array
returns-in-Array g c =
    let xs = c.in-Array.items.value.items in
    let n : nodes c.args.self.now ≡ of_items xs + 1 = ap nodes c.in-Array.is ∙ nodes-Array c.in-Array.items in
    let l : c.deref.result.now.len ≡ length xs = ap (λ v. v.len) c.deref.ensures ∙ c.in-Array.items.value.ok.0 in
    let p : 0 < length xs → 1 < of_items xs + 1 = items_some xs in
    let q : 1 < of_items xs + 1 → 0 < length xs = items_pos xs in
    grind (arith, n, l, p, q, c.is_empty.ensures)

pub returns-in-Object : goal.returns-in-Object
returns-in-Object g c = members_decide c.is_empty-in-Object.result c.in-Object.members.value.entries (nodes c.args.self.now) (subst (λ m. (IsTrue c.is_empty-in-Object.result → m.entries ≡ []) × (m.entries ≡ [] → IsTrue c.is_empty-in-Object.result)) c.deref-in-Object.ensures c.is_empty-in-Object.ensures) (ap nodes c.in-Object.is ∙ nodes-Object c.in-Object.members)
