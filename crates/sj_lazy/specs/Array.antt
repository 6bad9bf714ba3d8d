-- What an array of a lazy document means.
use Rattle.std.specs.Prelude.{List, map}
use Rattle.std.specs.Cow.{cow_str_bytes}
use Rattle.std.specs.Slice.Iter.{iter_rest}
use Rattle.sj_text_core.specs.Tree.{Tree, Items, items_from}
use Rattle.sj_text_core.specs.declared.repeats.Repeats.{Repeats}
use Rattle.sj_text_core.specs.declared.repeats.Repeats.TheVariants.{First}
use Rattle.sj_tape.specs.Items as tape
use Rattle.sj_document.specs.Document.{document_tree}
use Rattle.sj_lazy.specs.Value.{Form, of_tape, of_lent}
use Rattle.sj_lazy.specs.declared.array.Array.{Array}
use Rattle.sj_lazy.specs.declared.array.Array.TheVariants as array
use Rattle.sj_lazy.specs.declared.array.Iter.{Iter}
use Rattle.sj_lazy.specs.declared.array.Iter.TheVariants as iter

-- the items of an array
abbrev pub lazy_items : Array → Items
lazy_items (array.Tape a) = tape.items a
lazy_items (array.Value v) = items_from (map (document_tree cow_str_bytes) v.now.items)

-- the items that an iterator has left
abbrev pub lazy_items_ahead : Iter → List Tree
lazy_items_ahead (iter.Tape it) = tape.items_ahead it
lazy_items_ahead (iter.Value it) = map (document_tree cow_str_bytes) (iter_rest it)

abbrev pub lazy_array_choice : Array → Repeats
lazy_array_choice (array.Tape a) = tape.array_choice a
lazy_array_choice (array.Value v) = First

-- the form of its items, as reads give them
abbrev pub item_form : Array → Form
item_form (array.Tape a) = of_tape
item_form (array.Value v) = of_lent

-- the lazy values that an iterator has left
abbrev pub lazy_items_parts_ahead : Iter → List (Form × (Repeats × Tree))
lazy_items_parts_ahead (iter.Tape it) = map (λ p. (of_tape, p)) (tape.items_parts_ahead it)
lazy_items_parts_ahead (iter.Value it) = map (λ d. (of_lent, (First, document_tree cow_str_bytes d))) (iter_rest it)
