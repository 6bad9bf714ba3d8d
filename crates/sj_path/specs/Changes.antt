-- A tree of which what a pointer finds is changed.
use Rattle.std.specs.Prelude.{ℕ, List, Option, Some, None}
use Rattle.sj_text_core.specs.Tree.{Tree}
use Rattle.sj_pointer.specs.Pointed.{pointed, set_pointed}

abbrev pub changed_by : Option Tree → List (List ℕ) → (Tree → Tree) → Tree → Tree
changed_by None ks f t = t
changed_by (Some u) ks f t = set_pointed ks (f u) t

-- with f of what the tokens find in its place; the tree itself where they find nothing
abbrev pub changed_at : List (List ℕ) → (Tree → Tree) → Tree → Tree
changed_at ks f t = changed_by (pointed ks t) ks f t
