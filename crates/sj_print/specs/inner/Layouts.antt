-- What private clauses alone cite beside Layouts.
use Rattle.std.specs.Prelude.{ℕ, List, [], ◌∷◌, ◌++◌, Option, Some, None}
use Rattle.sj_text_core.specs.Tree.{Items, Members}
use Rattle.sj_text_core.specs.Print.{compact_items, compact_members, pretty_items, pretty_members}
use Rattle.sj_print.specs.Layouts.{deeper, gap}

-- what stands between the first item and the end, and so for members
abbrev pub laid_items : Option ℕ → Items → List ℕ
laid_items None is = compact_items is
laid_items (Some level) is = pretty_items level is

abbrev pub laid_members : Option ℕ → Members → List ℕ
laid_members None ms = compact_members ms
laid_members (Some level) ms = pretty_members level ms

abbrev pub key_end : Option ℕ → List ℕ
key_end None = 58 ∷ []
key_end (Some level) = 58 ∷ 32 ∷ []

-- what follows an item of an array, and so for members
abbrev pub items_end : Option ℕ → Items → List ℕ
items_end s is = laid_items (deeper s) is ++ (gap s ++ 93 ∷ [])

abbrev pub members_end : Option ℕ → Members → List ℕ
members_end s ms = laid_members (deeper s) ms ++ (gap s ++ 125 ∷ [])
