use Rattle.std.proofs.Common.{◌≡◌, map, drop, string_bytes}
use Rattle.sj_document.specs.Document.{document_tree}
use Rattle.sj_pointer.specs.Pointed.{pointed}
use Rattle.sj_path.proofs.walk.find_in.Given as goal

abbrev pub invariant-loop-token : goal.invariant-loop-token
invariant-loop-token g l =
    pointed (map string_bytes (drop l.token-index l.tokens)) (document_tree g.T.KeyText.text_of l.at) ≡ pointed (map string_bytes l.tokens) (document_tree g.T.KeyText.text_of l.value)
