-- The members of an object, from the entries of a map.
use Rattle.std.specs.Prelude.{List, [], ◌∷◌}
use Rattle.sj_text_core.specs.Tree.{Tree, Members, no_members, member}
use Rattle.sj_object.specs.Entries.{Entry}

-- each key as its text, and each value as its tree
abbrev pub entry_members : {K V : Type 0} → (V → Tree) → List (Entry K V) → Members
entry_members tree [] = no_members
entry_members tree (e ∷ es) = member e.0.1 (tree e.1) (entry_members tree es)
