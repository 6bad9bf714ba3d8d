-- What the operations of a difference are asked for.
use Rattle.std.specs.Prelude.{◌≡◌, List, Ok}
use Rattle.sj_text_core.specs.Tree.{Tree}
use Rattle.sj_text_core.specs.Same.{Same}
use Rattle.sj_patch.specs.Patch.{PlainOperation, patched}

-- by the operations the first tree becomes one that is the same as the second
abbrev pub Becomes : List PlainOperation → Tree → Tree → Type 0
Becomes ops t u = (v : Tree) × ((patched ops t ≡ Ok v) × Same v u)
