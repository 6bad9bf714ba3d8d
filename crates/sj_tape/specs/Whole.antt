-- The nodes of a whole tape, packed or plain, and stretches of them.
use Rattle.std.specs.Prelude.{ℕ, List, [], ◌∷◌, take, drop}
use Rattle.sj_text_core.specs.Nodes.{Mark, nothing}
use Rattle.sj_tape.specs.Marks.{marks, packed_marks}
use Rattle.sj_tape.specs.declared.node_list.List.{List as Whole}
use Rattle.sj_tape.specs.declared.node_list.List.TheVariants.{Packed, Plain}

abbrev pub list_nodes : Whole → List Mark
list_nodes (Packed ns) = packed_marks ns.nodes.items
list_nodes (Plain ns) = marks ns.items

-- without a tape, the one node of a null
abbrev pub all_nodes : List Whole → List Mark
all_nodes [] = nothing ∷ []
all_nodes (list ∷ lists) = list_nodes list

abbrev pub stretch : List Whole → ℕ → ℕ → List Mark
stretch lists from end = drop from (take end (all_nodes lists))
