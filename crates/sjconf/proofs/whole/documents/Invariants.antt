use Rattle.std.proofs.Common.{take, map, string_bytes}
use Rattle.sj_document.specs.Document.{document_tree}
use Rattle.sjconf.specs.Layers.{AreRead}
use Rattle.sjconf.proofs.whole.documents.Given as goal

abbrev pub invariant-loop-layer : goal.invariant-loop-layer
invariant-loop-layer l = AreRead (take l.layer-index l.layers) (map (document_tree string_bytes) l.documents.items)
