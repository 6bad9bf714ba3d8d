-- What a step of the reader has read, what it leaves, and the nodes that it put behind the old ones.
use Rattle.std.specs.Prelude.{◌≡◌, ℕ, List, [], ◌∷◌, ◌++◌, length, Option, Some, IsUtf8}
use Rattle.sj_text_core.specs.Tree.{Tree, items_from, members_from}
use Rattle.sj_text_core.specs.Nodes.{Mark, string, flat, flat_items, flat_members}
use Rattle.sj_text_core.specs.inner.Parse.{Reading}

-- the bytes end a text in UTF-8
abbrev pub EndsUtf8 : List ℕ → Type 0
EndsUtf8 b = (front : List ℕ) × IsUtf8 (front ++ b)

-- a text was read, and its node was put
pub record GivesText (read : Reading (List ℕ)) (left : List ℕ) (old new : List Mark) : Type 0 where
  pub text : List ℕ
  pub was : read ≡ Some (text, left)
  pub nodes : new ≡ old ++ string text ∷ []

-- a tree was read, and its nodes were put
pub record Gives (read : Reading Tree) (left : List ℕ) (old new : List Mark) : Type 0 where
  pub tree : Tree
  pub was : read ≡ Some (tree, left)
  pub nodes : new ≡ old ++ flat tree

-- the items of an array
pub record GivesItems (read : Reading (List Tree)) (left : List ℕ) (len : ℕ) (old new : List Mark) : Type 0 where
  pub trees : List Tree
  pub was : read ≡ Some (trees, left)
  pub nodes : new ≡ old ++ flat_items (items_from trees)
  pub count : len ≡ length trees

-- the members of an object
pub record GivesMembers (read : Reading (List (List ℕ × Tree))) (left : List ℕ) (len : ℕ) (old new : List Mark) : Type 0 where
  pub pairs : List (List ℕ × Tree)
  pub was : read ≡ Some (pairs, left)
  pub nodes : new ≡ old ++ flat_members (members_from pairs)
  pub count : len ≡ length pairs

-- one member
pub record GivesMember (read : Reading (List ℕ × Tree)) (left : List ℕ) (old new : List Mark) : Type 0 where
  pub key : List ℕ
  pub tree : Tree
  pub was : read ≡ Some ((key, tree), left)
  pub nodes : new ≡ old ++ (string key ∷ flat tree)

-- the whole text was read, and these are the tree's nodes
pub record Scans (read : Option Tree) (ns : List Mark) : Type 0 where
  pub tree : Tree
  pub was : read ≡ Some tree
  pub nodes : ns ≡ flat tree
