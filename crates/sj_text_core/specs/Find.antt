-- Members by their texts, and items by their places.
use Rattle.std.specs.Prelude.{ℕ, zero, suc, List, if◌then◌else◌, Option, Some, None, bytes_eq}
use Rattle.sj_text_core.specs.Tree.{Tree, list, obj, Items, no_items, item, Members, no_members, member}

-- the value of the first member with that text
abbrev pub find_member : List ℕ → Members → Option Tree
find_member k no_members = None
find_member k (member l t ms) = if bytes_eq k l then Some t else find_member k ms

-- in an object the value of the first member with that text; else absent (section 4)
abbrev pub find : List ℕ → Tree → Option Tree
find k (obj ms) = find_member k ms
find k _ = None

-- the i-th item, counted from 0
abbrev pub nth_item : ℕ → Items → Option Tree
nth_item i no_items = None
nth_item zero (item t is) = Some t
nth_item (suc i) (item t is) = nth_item i is

-- in a list the i-th item, counted from 0; else absent (section 5)
abbrev pub nth : ℕ → Tree → Option Tree
nth i (list is) = nth_item i is
nth i _ = None
