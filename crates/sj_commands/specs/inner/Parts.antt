-- Parts of a line's tape. Only private clauses cite it.
use Rattle.std.specs.Prelude.{List, map}
use Rattle.sj_text_core.specs.Tree.{Tree, listed}
use Rattle.sj_text_core.specs.Repeats.{keep_by}
use Rattle.sj_text_core.specs.declared.repeats.Repeats.{Repeats}
use Rattle.sj_tape.specs.Items.{items, array_choice}
use Rattle.sj_tape.specs.declared.array.Array.{Array}

-- the tree of a part, with the member of each key that counts in it
abbrev pub kept_part : Repeats × Tree → Tree
kept_part p = keep_by p.0 p.1

-- the parts of an array
abbrev pub parts_in : Array → List (Repeats × Tree)
parts_in a = map (λ t. (array_choice a, t)) (listed (items a))
