-- The nodes of a tree in preorder, and the tree of such nodes.
use Rattle.std.specs.Prelude.{◌≡◌, ℕ, zero, suc, ◌+◌, ◌*◌, ℤ, Bool, List, [], ◌∷◌, ◌++◌, length, drop}
use Rattle.sj_text_core.specs.Tree.{Carrier, Tree, null, boolean, int, text, list, obj, Items, no_items, item, Members, no_members, member, items_len, members_len}

-- a node, without where its text lies
pub data Mark : Type 0 where
  nothing : Mark
  truth : Bool → Mark
  number : ℤ → Carrier → Mark
  string : List ℕ → Mark
  array : ℕ → ℕ → Mark
  object : ℕ → ℕ → Mark

-- A scalar is one node. A container's node has how many items or members it has, and how many nodes follow inside it.
abbrev mutual
  pub flat : Tree → List Mark
  flat null = nothing ∷ []
  flat (boolean b) = truth b ∷ []
  flat (int n c) = number n c ∷ []
  flat (text s) = string s ∷ []
  flat (list is) = array (items_len is) (length (flat_items is)) ∷ flat_items is
  flat (obj ms) = object (members_len ms) (length (flat_members ms)) ∷ flat_members ms

  pub flat_items : Items → List Mark
  flat_items no_items = []
  flat_items (item t is) = flat t ++ flat_items is

  pub flat_members : Members → List Mark
  flat_members no_members = []
  flat_members (member k t ms) = string k ∷ (flat t ++ flat_members ms)

-- the first n trees as items
abbrev pub items_of : ℕ → List Tree → Items
items_of zero ts = no_items
items_of (suc n) [] = no_items
items_of (suc n) (t ∷ ts) = item t (items_of n ts)

-- the text of a tree that is one
abbrev pub key_of : Tree → List ℕ
key_of (text s) = s
key_of _ = []

-- the first n pairs of trees as members
abbrev pub members_of : ℕ → List Tree → Members
members_of zero ts = no_members
members_of (suc n) [] = no_members
members_of (suc n) (k ∷ []) = no_members
members_of (suc n) (k ∷ t ∷ ts) = member (key_of k) t (members_of n ts)

-- the trees whose preorders follow one another in the nodes
abbrev pub trees_of : List Mark → List Tree
trees_of [] = []
trees_of (nothing ∷ ns) = null ∷ trees_of ns
trees_of (truth b ∷ ns) = boolean b ∷ trees_of ns
trees_of (number n c ∷ ns) = int n c ∷ trees_of ns
trees_of (string s ∷ ns) = text s ∷ trees_of ns
trees_of (array len count ∷ ns) = list (items_of len (trees_of ns)) ∷ drop len (trees_of ns)
trees_of (object len count ∷ ns) = obj (members_of len (trees_of ns)) ∷ drop (2 * len) (trees_of ns)

abbrev pub first_tree : List Tree → Tree
first_tree [] = null
first_tree (t ∷ ts) = t

-- the tree that nodes list
abbrev pub tree_of : List Mark → Tree
tree_of ns = first_tree (trees_of ns)

-- the nodes are the preorder of a tree
abbrev pub IsPreorder : List Mark → Type 0
IsPreorder ns = ns ≡ flat (tree_of ns)

-- the members whose nodes follow one another
abbrev pub members_in : List Mark → Members
members_in ns = members_of (length ns) (trees_of ns)

-- how many nodes a tree with that first node has
abbrev pub width : Mark → ℕ
width nothing = 1
width (truth b) = 1
width (number n c) = 1
width (string s) = 1
width (array len count) = 1 + count
width (object len count) = 1 + count
