-- What private clauses alone cite beside Parts.
use Rattle.std.specs.Prelude.{◌≡◌, ℕ, ◌≤◌, List, drop, length}
use Rattle.sj_text_core.specs.Tree.{listed}
use Rattle.sj_text_core.specs.Nodes.{Mark, flat_items}
use Rattle.sj_tape.specs.Parts.{items_in}

-- the nodes are those of an array's items
abbrev pub AreItemNodes : List Mark → Type 0
AreItemNodes ns = ns ≡ flat_items (items_in ns)

-- the items from the one at position i on have their nodes from that place on
pub record ItemsFrom (ns : List Mark) (i place : ℕ) : Type 0 where
  pub inside : place ≤ length ns
  pub are : AreItemNodes (drop place ns)
  pub items : listed (items_in (drop place ns)) ≡ drop i (listed (items_in ns))
