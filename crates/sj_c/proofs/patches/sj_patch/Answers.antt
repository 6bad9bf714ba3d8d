use Rattle.std.proofs.Common.{Some, string_bytes, sym, ap, ◌∙◌}
use Rattle.sj_document.specs.Document.{document_tree}
use Rattle.sj_c.specs.Meant.{held_tree}
use Rattle.sj_c.proofs.patches.sj_patch.Goals as goal

pub returns-clause-fault : goal.returns-clause-fault
returns-clause-fault c = λ n _. (
  document_tree string_bytes c.deref_mut.result.now.value,
  document_tree string_bytes c.deref.result.now.value,
  ap held_tree (c.in-Some.ensures.some ∙ ap Some (sym c.deref_mut.ensures.value)),
  ap held_tree (c.in-Some-take.ensures.some ∙ ap Some (sym c.deref.ensures)),
  c.patch_value-code.ensures.fault n,
)
