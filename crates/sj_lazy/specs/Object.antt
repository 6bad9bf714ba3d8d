-- What an object of a lazy document means.
use Rattle.std.specs.Prelude.{ℕ, List, map}
use Rattle.std.specs.Cow.{cow_str_bytes}
use Rattle.sj_text_core.specs.Tree.{Tree, Members}
use Rattle.sj_text_core.specs.declared.repeats.Repeats.{Repeats}
use Rattle.sj_text_core.specs.declared.repeats.Repeats.TheVariants.{First}
use Rattle.sj_tape.specs.Members as tape
use Rattle.sj_object.specs.Members.{entry_members}
use Rattle.sj_document.specs.Document.{document_tree}
use Rattle.sj_lazy.specs.Value.{Form, of_tape, of_lent}
use Rattle.sj_lazy.specs.declared.object.Object.{Object}
use Rattle.sj_lazy.specs.declared.object.Object.TheVariants as object
use Rattle.sj_lazy.specs.declared.object.Iter.{Iter}
use Rattle.sj_lazy.specs.declared.object.Iter.TheVariants as iter
use Rattle.sj_lazy.specs.declared.object.Keys.{Keys}
use Rattle.sj_lazy.specs.declared.object.Keys.TheVariants as keys
use Rattle.sj_lazy.specs.declared.object.Values.{Values}
use Rattle.sj_lazy.specs.declared.object.Values.TheVariants as values

-- the members of an object, of a tape repeats too
abbrev pub lazy_members : Object → Members
lazy_members (object.Tape o) = tape.members o
lazy_members (object.Value m) = entry_members (document_tree cow_str_bytes) m.now.entries

-- the members that an iterator has left
abbrev pub lazy_members_ahead : Iter → List (List ℕ × Tree)
lazy_members_ahead (iter.Tape it) = tape.members_ahead it
lazy_members_ahead (iter.Value it) = map (λ p. (cow_str_bytes p.0, document_tree cow_str_bytes p.1)) it

abbrev pub lazy_object_choice : Object → Repeats
lazy_object_choice (object.Tape o) = tape.object_choice o
lazy_object_choice (object.Value m) = First

-- the form of its values, as reads give them
abbrev pub value_form : Object → Form
value_form (object.Tape o) = of_tape
value_form (object.Value m) = of_lent

-- the members that an iterator has left, their values as lazy values
abbrev pub lazy_members_parts_ahead : Iter → List (List ℕ × (Form × (Repeats × Tree)))
lazy_members_parts_ahead (iter.Tape it) = map (λ p. (p.0, (of_tape, p.1))) (tape.members_parts_ahead it)
lazy_members_parts_ahead (iter.Value it) = map (λ p. (cow_str_bytes p.0, (of_lent, (First, document_tree cow_str_bytes p.1)))) it

-- the keys that an iterator has left
abbrev pub lazy_keys_ahead : Keys → List (List ℕ)
lazy_keys_ahead (keys.Tape it) = tape.keys_ahead it
lazy_keys_ahead (keys.Value it) = map cow_str_bytes it

-- the lazy values that an iterator has left
abbrev pub lazy_values_ahead : Values → List (Form × (Repeats × Tree))
lazy_values_ahead (values.Tape it) = map (λ p. (of_tape, p)) (tape.value_parts_ahead it)
lazy_values_ahead (values.Value it) = map (λ d. (of_lent, (First, document_tree cow_str_bytes d))) it
