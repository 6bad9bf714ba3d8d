-- What is left of members and items after an edit.
use Rattle.std.specs.Prelude.{ℕ, List, if◌then◌else◌, Option, Some, None, bytes_eq}
use Rattle.sj_text_core.specs.Tree.{Tree, Items, no_items, item, Members, no_members, member}

-- the first member with the text has the value t, in its place; where there is none, the pair goes last
abbrev pub put : List ℕ → Tree → Members → Members
put k t no_members = member k t no_members
put k t (member l u ms) = if bytes_eq k l then member l t ms else member l u (put k t ms)

-- without the first member with the text
abbrev pub cut : List ℕ → Members → Members
cut k no_members = no_members
cut k (member l u ms) = if bytes_eq k l then ms else member l u (cut k ms)

-- the items with t behind them
abbrev pub push : Tree → Items → Items
push t no_items = item t no_items
push t (item u is) = item u (push t is)

-- the items without the last
abbrev pub front : Items → Items
front no_items = no_items
front (item t no_items) = no_items
front (item t (item u is)) = item t (front (item u is))

abbrev pub last : Items → Option Tree
last no_items = None
last (item t no_items) = Some t
last (item t (item u is)) = last (item u is)
