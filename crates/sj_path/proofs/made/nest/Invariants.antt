use Rattle.std.proofs.Common.{◌≡◌, ◌≤◌, length, map, drop, string_bytes}
use Rattle.sj_text_core.specs.Tree.{null}
use Rattle.sj_document.specs.Document.{document_tree}
use Rattle.sj_path.specs.Made.{nested}
use Rattle.sj_path.proofs.made.nest.Given as goal

abbrev pub invariant-loop-left : goal.invariant-loop-left
invariant-loop-left g l = record {
  within : l.left ≤ length l.tokens;
  made : document_tree g.T.KeyText.text_of l.inner ≡ nested (map string_bytes (drop l.left l.tokens)) null;
}

abbrev pub decreases-loop-left : goal.decreases-loop-left
decreases-loop-left g l = l.left
