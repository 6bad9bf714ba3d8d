use Rattle.std.proofs.Common.{◌≡◌, map, take}
use Rattle.sj_document.specs.Document.{document_tree}
use Rattle.sj_patch.specs.Listed.{listed_operation}
use Rattle.sj_patch.specs.Meant.{meant}
use Rattle.sj_patch.proofs.listing.document_of.Given as goal

abbrev pub invariant-loop-operation : goal.invariant-loop-operation
invariant-loop-operation g l =
    map (document_tree g.T.KeyText.text_of) l.items.items ≡ map (λ o. listed_operation (meant g.T.KeyText.text_of o)) (take l.operation-index l.operations)
