-- The tree with the first member of each text alone (RFC 8259, section 4, leaves repeats open).
use Rattle.std.specs.Prelude.{◌≡◌, ℕ, Bool, List, [], ◌∷◌, if◌then◌else◌, None, bytes_eq, ⊤}
use Rattle.std.specs.List.{list_any}
use Rattle.sj_text_core.specs.Tree.{Tree, null, boolean, int, text, list, obj, Items, no_items, item, Members, no_members, member}
use Rattle.sj_text_core.specs.Find.{find_member}

-- whether a text is among those seen
abbrev pub is_seen : List ℕ → List (List ℕ) → Bool
is_seen k seen = list_any (bytes_eq k) seen

-- in every object, at every depth, a member is dropped where an earlier one has its text
abbrev mutual
  pub keep : Tree → Tree
  keep null = null
  keep (boolean b) = boolean b
  keep (int n c) = int n c
  keep (text s) = text s
  keep (list is) = list (keep_items is)
  keep (obj ms) = obj (keep_members [] ms)

  pub keep_items : Items → Items
  keep_items no_items = no_items
  keep_items (item t is) = item (keep t) (keep_items is)

  -- the members whose text is not among those seen
  pub keep_members : List (List ℕ) → Members → Members
  keep_members seen no_members = no_members
  keep_members seen (member k t ms) =
      if is_seen k seen then keep_members seen ms else member k (keep t) (keep_members (k ∷ seen) ms)

-- in every object, at every depth, each text names one member
abbrev mutual
  pub IsSingle : Tree → Type 0
  IsSingle null = ⊤
  IsSingle (boolean b) = ⊤
  IsSingle (int n c) = ⊤
  IsSingle (text s) = ⊤
  IsSingle (list is) = AreSingle is
  IsSingle (obj ms) = HasSingle ms

  pub AreSingle : Items → Type 0
  AreSingle no_items = ⊤
  AreSingle (item t is) = IsSingle t × AreSingle is

  -- no later member has the text of one before it
  pub HasSingle : Members → Type 0
  HasSingle no_members = ⊤
  HasSingle (member k t ms) = (find_member k ms ≡ None) × IsSingle t × HasSingle ms

-- keeping drops nothing
abbrev pub IsKept : Tree → Type 0
IsKept t = keep t ≡ t
