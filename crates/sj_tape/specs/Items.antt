-- What an array of a tape means.
use Rattle.std.specs.Prelude.{List, map}
use Rattle.sj_text_core.specs.Tree.{Tree, Items, listed}
use Rattle.sj_text_core.specs.declared.repeats.Repeats.{Repeats}
use Rattle.sj_tape.specs.Stretches.{nodes_in}
use Rattle.sj_tape.specs.Parts.{items_in}
use Rattle.sj_tape.specs.declared.array.Array.{Array}
use Rattle.sj_tape.specs.declared.array.Iter.{Iter}

-- the items of an array
abbrev pub items : Array → Items
items a = items_in (nodes_in a.nodes)

-- the items that an iterator has left
abbrev pub items_ahead : Iter → List Tree
items_ahead it = listed (items_in (nodes_in it.nodes))

-- which member of several with one key counts in the items
abbrev pub array_choice : Array → Repeats
array_choice a = a.repeats

-- the parts that an iterator has left
abbrev pub items_parts_ahead : Iter → List (Repeats × Tree)
items_parts_ahead it = map (λ t. (it.repeats, t)) (items_ahead it)
