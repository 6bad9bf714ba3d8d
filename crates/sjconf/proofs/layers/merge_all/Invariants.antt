use Rattle.std.proofs.Common.{◌≡◌, length, map, fold, Some, string_bytes}
use Rattle.std.specs.Vec.Iter.{into_iter_items}
use Rattle.sj_document.specs.Document.{document_tree}
use Rattle.sj_merge.specs.Merge.{merged}
use Rattle.sjconf.specs.Layers.{layered}
use Rattle.sjconf.proofs.layers.merge_all.Given as goal

abbrev pub invariant-loop-layer : goal.invariant-loop-layer
invariant-loop-layer l = fold (λ u v. merged (Some u) v) (document_tree string_bytes l.whole) (map (document_tree string_bytes) (into_iter_items l.left)) ≡ layered (map (document_tree string_bytes) l.fn.layers.items)

abbrev pub decreases-loop-layer : goal.decreases-loop-layer
decreases-loop-layer l = length (into_iter_items l.left)
