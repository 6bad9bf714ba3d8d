-- The canonical form of a tree (RFC 8785). Its compact print is the canonical text: the escapes of that print are those of
-- section 3.2.2.2, and a number is printed as its digits, also past 2 ^ 53.
use Rattle.std.specs.Prelude.{◌≡◌, ℕ, List, if◌then◌else◌, Bool, false, flat_map, ⊤}
use Rattle.std.specs.Char.Escape.{encode_utf16}
use Rattle.std.specs.Cmp.Lexicographic.{slice_cmp}
use Rattle.std.specs.Ordering.{is_lt, nat_cmp}
use Rattle.std.specs.Str.{chars}
use Rattle.sj_text_core.specs.Repeats.{keep_by}
use Rattle.sj_text_core.specs.declared.repeats.Repeats.{Repeats}
use Rattle.sj_text_core.specs.Tree.{Tree, null, boolean, int, text, list, obj, Items, no_items, item, Members, no_members, member}

-- the units of a text in UTF-16
abbrev pub units : List ℕ → List ℕ
units s = flat_map encode_utf16 (chars s)

-- section 3.2.3: one text stands before another by their units, of which the first that differ decide, and else the lengths
abbrev pub is_before : List ℕ → List ℕ → Bool
is_before k l = is_lt (slice_cmp nat_cmp (units k) (units l))

-- a member among others, in front of the first whose text does not stand before its own
abbrev pub sort_in : List ℕ → Tree → Members → Members
sort_in k t no_members = member k t no_members
sort_in k t (member l u ms) = if is_before l k then member l u (sort_in k t ms) else member k t (member l u ms)

-- in every object, at every depth, the members in the order of their texts; members of one text in the order that they had
abbrev mutual
  pub canonical : Tree → Tree
  canonical null = null
  canonical (boolean b) = boolean b
  canonical (int n c) = int n c
  canonical (text s) = text s
  canonical (list is) = list (canonical_items is)
  canonical (obj ms) = obj (canonical_members ms)

  pub canonical_items : Items → Items
  canonical_items no_items = no_items
  canonical_items (item t is) = item (canonical t) (canonical_items is)

  pub canonical_members : Members → Members
  canonical_members no_members = no_members
  canonical_members (member k t ms) = sort_in k (canonical t) (canonical_members ms)

-- the canonical form of the tree with the member of each text that counts
abbrev pub canonical_by : Repeats → Tree → Tree
canonical_by c t = canonical (keep_by c t)

-- no text stands before this one
abbrev pub NoneBefore : List ℕ → Members → Type 0
NoneBefore k no_members = ⊤
NoneBefore k (member l t ms) = (is_before l k ≡ false) × NoneBefore k ms

-- in every object, at every depth, no text stands before one in front of it
abbrev mutual
  pub IsOrdered : Tree → Type 0
  IsOrdered null = ⊤
  IsOrdered (boolean b) = ⊤
  IsOrdered (int n c) = ⊤
  IsOrdered (text s) = ⊤
  IsOrdered (list is) = AreOrdered is
  IsOrdered (obj ms) = HasOrder ms

  pub AreOrdered : Items → Type 0
  AreOrdered no_items = ⊤
  AreOrdered (item t is) = IsOrdered t × AreOrdered is

  pub HasOrder : Members → Type 0
  HasOrder no_members = ⊤
  HasOrder (member k t ms) = NoneBefore k ms × IsOrdered t × HasOrder ms
