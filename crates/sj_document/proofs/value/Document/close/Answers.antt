use Rattle.std.proofs.Common.{sym, ap, ◌∙◌, arith}
use Rattle.sj_document.specs.inner.Nodes.{nodes}
use Rattle.sj_document.proofs.Nodes.{nodes-Array, nodes-Object, items_none, members_none}
use Rattle.sj_document.proofs.value.Document.close.Goals as goal

pub destroy_empty-requires : goal.destroy_empty-requires
destroy_empty-requires g c =
    let n = items_none c.in-Array.items.value.items (sym (ap nodes c.in-Array.is ∙ nodes-Array c.in-Array.items) ∙ c.requires) in
    omega (arith, n, c.in-Array.items.value.ok.0, ap (λ v. v.len) c.into_inner.ensures)

pub destroy_empty-requires-in-Object : goal.destroy_empty-requires-in-Object
destroy_empty-requires-in-Object g c = ap (λ m. m.entries) c.into_inner-in-Object.ensures ∙ members_none c.in-Object.members.value.entries (sym (ap nodes c.in-Object.is ∙ nodes-Object c.in-Object.members) ∙ c.requires)
