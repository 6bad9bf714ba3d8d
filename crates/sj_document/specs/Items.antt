-- What is left of an array after an edit at a position.
use Rattle.std.specs.Prelude.{ℕ, zero, suc}
use Rattle.sj_text_core.specs.Tree.{Tree, list, Items, no_items, item}

-- the items with u in front of the i-th, and behind all where there is none
abbrev pub insert_at : ℕ → Tree → Items → Items
insert_at i u no_items = item u no_items
insert_at zero u (item t is) = item u (item t is)
insert_at (suc i) u (item t is) = item t (insert_at i u is)

-- the items without the i-th
abbrev pub remove_at : ℕ → Items → Items
remove_at i no_items = no_items
remove_at zero (item t is) = is
remove_at (suc i) (item t is) = item t (remove_at i is)

-- an array with u in front of its i-th item; anything else stays
abbrev pub with_item_at : ℕ → Tree → Tree → Tree
with_item_at i u (list is) = list (insert_at i u is)
with_item_at i u t = t

-- an array without its i-th item; anything else stays
abbrev pub without_item_at : ℕ → Tree → Tree
without_item_at i (list is) = list (remove_at i is)
without_item_at i t = t
