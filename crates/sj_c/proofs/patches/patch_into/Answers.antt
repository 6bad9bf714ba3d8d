use Rattle.std.proofs.Common.{map, string_bytes, ap, ◌∙◌}
use Rattle.sj_text_core.specs.Tree.{list}
use Rattle.sj_document.specs.Document.{document_tree}
use Rattle.sj_patch.specs.Listed.{listed_all}
use Rattle.sj_patch.specs.Meant as operation
use Rattle.sj_c.specs.Meant.{held_tree}
use Rattle.sj_c.proofs.patches.patch_into.Goals as goal

pub returns-in-Ok-document_of-clause-ok : goal.returns-in-Ok-document_of-clause-ok
returns-in-Ok-document_of-clause-ok c =
    λ done. (
      document_tree string_bytes c.in-Ok-document_of.listed,
      ap held_tree (c.hold.ensures.ok done),
      record {
        operations = map (operation.meant string_bytes) c.in-Ok.operations.items;
        listed = c.in-Ok-document_of.ensures ∙ ap (λ os. list (listed_all (map (operation.meant string_bytes) os))) c.as_slice.ensures.value;
        becomes = c.in-Ok.ensures.becomes;
        none = λ same. ap (map (operation.meant string_bytes)) (c.in-Ok.ensures.none same);
      },
    )
