-- What nodes begin with.
use Rattle.std.specs.Prelude.{◌≡◌, ℕ, List, [], ◌∷◌, ◌++◌, length, ⊤}
use Rattle.sj_text_core.specs.Tree.{Tree, Items, items_len, Members, members_len}
use Rattle.sj_text_core.specs.Nodes.{Mark, string, flat, flat_items, flat_members}

-- the nodes of a tree, and others
pub record BeginsTree (ns : List Mark) : Type 0 where
  pub tree : Tree
  pub rest : List Mark
  pub are : ns ≡ flat tree ++ rest

-- a tree begins at every node
abbrev pub AllBegin : List Mark → Type 0
AllBegin [] = ⊤
AllBegin (m ∷ ns) = BeginsTree (m ∷ ns) × AllBegin ns

-- so many items in so many nodes, and others
pub record BeginsItems (len count : ℕ) (ns : List Mark) : Type 0 where
  pub items : Items
  pub rest : List Mark
  pub are : ns ≡ flat_items items ++ rest
  pub counted : items_len items ≡ len
  pub wide : length (flat_items items) ≡ count

-- so many members in so many nodes, and others
pub record BeginsMembers (len count : ℕ) (ns : List Mark) : Type 0 where
  pub members : Members
  pub rest : List Mark
  pub are : ns ≡ flat_members members ++ rest
  pub counted : members_len members ≡ len
  pub wide : length (flat_members members) ≡ count

-- a node that is a text
abbrev pub IsText : Mark → Type 0
IsText m = (k : List ℕ) × (m ≡ string k)
