-- The tree that a text spells, a tape lists and a document holds (RFC 8259, section 3).
-- An object keeps its members in order, and a text may name several of them (section 4).
use Rattle.std.specs.Prelude.{ℕ, suc, max, ◌≤◌, ◌^◌, ℤ, pos, neg_ℤ, ◌≤ℤ◌, ◌<ℤ◌, Bool, List, [], ◌∷◌, IsUtf8, ⊤}

-- the range of whole numbers that a number is carried in
pub data Carrier : Type 0 where
  i64 : Carrier
  u64 : Carrier
  i128 : Carrier
  u128 : Carrier

-- Why so: docs/REFUSED.md, "Three kinds of data".
mutual
  pub data Tree : Type 0 where
    null : Tree
    boolean : Bool → Tree
    int : ℤ → Carrier → Tree
    text : List ℕ → Tree
    list : Items → Tree
    obj : Members → Tree

  pub data Items : Type 0 where
    no_items : Items
    item : Tree → Items → Items

  pub data Members : Type 0 where
    no_members : Members
    member : List ℕ → Tree → Members → Members

-- items and members from plain lists
abbrev pub items_from : List Tree → Items
items_from [] = no_items
items_from (t ∷ ts) = item t (items_from ts)

abbrev pub members_from : List (List ℕ × Tree) → Members
members_from [] = no_members
members_from (p ∷ ps) = member p.0 p.1 (members_from ps)

-- items and members as plain lists
abbrev pub listed : Items → List Tree
listed no_items = []
listed (item t is) = t ∷ listed is

abbrev pub paired : Members → List (List ℕ × Tree)
paired no_members = []
paired (member k t ms) = (k, t) ∷ paired ms

-- the texts of members in order, repeats too
abbrev pub keys_of : Members → List (List ℕ)
keys_of no_members = []
keys_of (member k t ms) = k ∷ keys_of ms

-- the whole numbers of a carrier (section 6)
abbrev pub Carries : Carrier → ℤ → Type 0
Carries i64 n = (neg_ℤ (pos (2 ^ 63)) ≤ℤ n) × (n <ℤ pos (2 ^ 63))
Carries u64 n = (pos 0 ≤ℤ n) × (n <ℤ pos (2 ^ 64))
Carries i128 n = (neg_ℤ (pos (2 ^ 127)) ≤ℤ n) × (n <ℤ pos (2 ^ 127))
Carries u128 n = (pos 0 ≤ℤ n) × (n <ℤ pos (2 ^ 128))

-- texts are UTF-8 (section 8.1), and numbers lie in their carrier's range
abbrev mutual
  pub IsProper : Tree → Type 0
  IsProper null = ⊤
  IsProper (boolean b) = ⊤
  IsProper (int n c) = Carries c n
  IsProper (text s) = IsUtf8 s
  IsProper (list is) = AreProper is
  IsProper (obj ms) = HasProper ms

  pub AreProper : Items → Type 0
  AreProper no_items = ⊤
  AreProper (item t is) = IsProper t × AreProper is

  pub HasProper : Members → Type 0
  HasProper no_members = ⊤
  HasProper (member k t ms) = IsUtf8 k × IsProper t × HasProper ms

-- how many lists and objects stand inside one another (section 9)
abbrev mutual
  pub depth : Tree → ℕ
  depth null = 0
  depth (boolean b) = 0
  depth (int n c) = 0
  depth (text s) = 0
  depth (list is) = suc (items_depth is)
  depth (obj ms) = suc (members_depth ms)

  pub items_depth : Items → ℕ
  items_depth no_items = 0
  items_depth (item t is) = max (depth t) (items_depth is)

  pub members_depth : Members → ℕ
  members_depth no_members = 0
  members_depth (member k t ms) = max (depth t) (members_depth ms)

-- at most 1024 lists and objects stand inside one another (section 9)
abbrev pub IsWithin : Tree → Type 0
IsWithin t = depth t ≤ 1024

-- how many items a list has
abbrev pub items_len : Items → ℕ
items_len no_items = 0
items_len (item t is) = suc (items_len is)

-- how many members an object has, repeats counted
abbrev pub members_len : Members → ℕ
members_len no_members = 0
members_len (member k t ms) = suc (members_len ms)
