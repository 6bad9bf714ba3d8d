use Rattle.std.proofs.Common.{take, string_bytes}
use Rattle.sj_document.specs.Document.{document_tree}
use Rattle.sj_document.specs.SameWith.{SameEach}
use Rattle.sj_uses.proofs.typed.VecFromJson.from_json.Given as goal

abbrev pub invariant-loop-item : goal.invariant-loop-item
invariant-loop-item g l = SameEach (λ d x. g.T.Meant.means (document_tree string_bytes d) x) (take l.item-index l.item-items) l.items.items
