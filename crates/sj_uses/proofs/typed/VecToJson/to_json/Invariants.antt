use Rattle.std.proofs.Common.{take, string_bytes}
use Rattle.sj_document.specs.Document.{document_tree}
use Rattle.sj_document.specs.SameWith.{SameEach}
use Rattle.sj_uses.proofs.typed.VecToJson.to_json.Given as goal

abbrev pub invariant-loop-value : goal.invariant-loop-value
invariant-loop-value g l = SameEach (λ d x. g.T.Meant.means (document_tree string_bytes d) x) l.items.items (take l.value-index l.value-items)
