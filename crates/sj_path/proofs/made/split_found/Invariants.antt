use Rattle.std.proofs.Common.{◌≡◌, Some, map, take, string_bytes}
use Rattle.sj_document.specs.Document.{document_tree}
use Rattle.sj_pointer.specs.Pointed.{pointed}
use Rattle.sj_path.proofs.made.split_found.Given as goal

abbrev pub invariant-loop-depth : goal.invariant-loop-depth
invariant-loop-depth g l = let t = g.T.KeyText.text_of in pointed (map string_bytes (take l.depth l.tokens)) (document_tree t l.value) ≡ Some (document_tree t l.at)
