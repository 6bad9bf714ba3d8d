-- What an object of a tape means.
use Rattle.std.specs.Prelude.{ℕ, List, map}
use Rattle.sj_text_core.specs.Tree.{Tree, Members, paired}
use Rattle.sj_text_core.specs.Nodes.{members_in}
use Rattle.sj_text_core.specs.declared.repeats.Repeats.{Repeats}
use Rattle.sj_tape.specs.Stretches.{nodes_in}
use Rattle.sj_tape.specs.declared.object.Object.{Object}
use Rattle.sj_tape.specs.declared.object.Iter.{Iter}
use Rattle.sj_tape.specs.declared.object.Keys.{Keys}
use Rattle.sj_tape.specs.declared.object.Values.{Values}

-- the members of an object, repeats too
abbrev pub members : Object → Members
members o = members_in (nodes_in o.nodes)

-- the members that an iterator has left
abbrev pub members_ahead : Iter → List (List ℕ × Tree)
members_ahead it = paired (members_in (nodes_in it.nodes))

-- the keys that an iterator has left
abbrev pub keys_ahead : Keys → List (List ℕ)
keys_ahead it = map (λ (p : List ℕ × Tree). p.0) (members_ahead it.members)

-- the values that an iterator has left
abbrev pub values_ahead : Values → List Tree
values_ahead it = map (λ (p : List ℕ × Tree). p.1) (members_ahead it.members)

-- which member of several with one key counts
abbrev pub object_choice : Object → Repeats
object_choice o = o.repeats

-- the members with a choice, their values as parts
abbrev pub chosen_pairs : Repeats → List (List ℕ × Tree) → List (List ℕ × (Repeats × Tree))
chosen_pairs c ps = map (λ p. (p.0, (c, p.1))) ps

-- the members that an iterator has left, their values as parts
abbrev pub members_parts_ahead : Iter → List (List ℕ × (Repeats × Tree))
members_parts_ahead it = chosen_pairs it.repeats (members_ahead it)

-- the values that an iterator has left, as parts
abbrev pub value_parts_ahead : Values → List (Repeats × Tree)
value_parts_ahead it = map (λ (p : List ℕ × (Repeats × Tree)). p.1) (members_parts_ahead it.members)
