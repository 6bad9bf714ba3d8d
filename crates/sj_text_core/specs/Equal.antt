-- Whether two trees mean the same document, as a test.
use Rattle.std.specs.Prelude.{ℕ, Bool, true, false, ◌&&◌, ◌||◌, List, [], ◌∷◌, Option, Some, None, is_some, bytes_eq}
use Rattle.std.specs.Bool.{beq}
use Rattle.std.specs.Ordering.{int_eq}
use Rattle.sj_text_core.specs.Tree.{Tree, null, boolean, int, text, list, obj, Items, no_items, item, Members, no_members, member}
use Rattle.sj_text_core.specs.Find.{find_member}
use Rattle.sj_text_core.specs.Keep.{is_seen}

-- whether a value is there and passes the test
abbrev pub passes : Option Tree → (Tree → Bool) → Bool
passes None test = false
passes (Some u) test = test u

-- whether the first members have each text of the second
abbrev pub has_all : Members → Members → Bool
has_all ms no_members = true
has_all ms (member k t ns) = is_some (find_member k ms) && has_all ms ns

abbrev mutual
  pub tree_eq : Tree → Tree → Bool
  tree_eq null null = true
  tree_eq (boolean a) (boolean b) = beq a b
  tree_eq (int n c) (int m d) = int_eq n m
  tree_eq (text s) (text r) = bytes_eq s r
  tree_eq (list is) (list js) = items_eq is js
  tree_eq (obj ms) (obj ns) = members_eq [] ms ns && has_all ms ns
  tree_eq _ _ = false

  pub items_eq : Items → Items → Bool
  items_eq no_items no_items = true
  items_eq no_items (item u js) = false
  items_eq (item t is) no_items = false
  items_eq (item t is) (item u js) = tree_eq t u && items_eq is js

  -- whether each first member whose text is not among those seen is there, the same
  pub members_eq : List (List ℕ) → Members → Members → Bool
  members_eq seen no_members ns = true
  members_eq seen (member k t ms) ns = (is_seen k seen || passes (find_member k ns) (λ u. tree_eq t u)) && members_eq (k ∷ seen) ms ns
