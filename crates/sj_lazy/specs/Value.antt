-- The tree that a lazy value means.
use Rattle.std.specs.Prelude.{ℕ, List, Option, Some, None, Bool, true, false, not}
use Rattle.std.specs.Borrow.{Bor}
use Rattle.std.specs.Cow.{cow_str_bytes}
use Rattle.std.specs.declared.borrow.CowStr.{CowStr}
use Rattle.std.specs.declared.alloc.Global.{Global}
use Rattle.sj_text_core.specs.Tree.{Tree}
use Rattle.sj_tape.specs.declared.value.Value.{Value as TapeValue}
use Rattle.sj_text_core.specs.Repeats.{find_by, keep_by, by_first}
use Rattle.sj_text_core.specs.declared.repeats.Repeats.{Repeats}
use Rattle.sj_text_core.specs.declared.repeats.Repeats.TheVariants.{First}
use Rattle.sj_tape.specs.Value.{tape_tree, tape_choice}
use Rattle.sj_object.specs.Keys.{is_borrowed}
use Rattle.sj_document.specs.Document.{document_tree, all_texts}
use Rattle.sj_document.specs.declared.value.Document.{Document}
use Rattle.sj_lazy.specs.declared.value.Shared.{Shared}
use Rattle.sj_lazy.specs.declared.value.Shared.TheVariants.{Borrowed, Owned}
use Rattle.sj_lazy.specs.declared.value.Lazy.{Lazy}
use Rattle.sj_lazy.specs.declared.value.Lazy.TheVariants.{Tape, Value}

module _ {B T : Type 0} (b : B → Tree) (t : T → List ℕ) where
  abbrev pub shared_tree : Shared B T → Tree
  shared_tree (Borrowed x) = b x
  shared_tree (Owned v) = document_tree t v

-- p gives the tree of a part of a tape, b that of a lent document, and t the text of a key or a string
module _ {P B T : Type 0} (p : P → Tree) (b : B → Tree) (t : T → List ℕ) where
  abbrev pub lazy_tree : Lazy P B T → Tree
  lazy_tree (Tape x) = p x
  lazy_tree (Value c) = shared_tree b t c

  -- where p gives what is kept of a part of a tape: the tree once it is written
  abbrev pub lazy_kept : Lazy P B T → Tree
  lazy_kept = lazy_tree

module _ {B T : Type 0} (t : T → List ℕ) where
  abbrev pub owned_of : Shared B T → Option Tree
  owned_of (Borrowed x) = None
  owned_of (Owned v) = Some (document_tree t v)

  -- the tree of the document that it owns, if it owns one
  abbrev pub owned : {P : Type 0} → Lazy P B T → Option Tree
  owned (Tape x) = None
  owned (Value c) = owned_of c

abbrev pub on_tape : {P B T : Type 0} → Lazy P B T → Bool
on_tape (Tape x) = true
on_tape (Value c) = false

-- the form of a lazy value
pub data Form : Type 0 where
  of_tape : Form
  of_lent : Form
  of_owned : Form

abbrev pub shared_form : {B T : Type 0} → Shared B T → Form
shared_form (Borrowed x) = of_lent
shared_form (Owned v) = of_owned

abbrev pub form : {P B T : Type 0} → Lazy P B T → Form
form (Tape x) = of_tape
form (Value c) = shared_form c

-- the form of its parts, as reads give them: a part of the same tape, or one that is lent
abbrev pub part_form : {P B T : Type 0} → Lazy P B T → Form
part_form (Tape x) = of_tape
part_form (Value c) = of_lent

abbrev pub Text : Type 0
Text = CowStr Global

-- the tree of a document that is lent
abbrev pub lent_tree : Bor (Document Text) → Tree
lent_tree v = document_tree cow_str_bytes v.now

abbrev pub shared_lends_owned : Shared (Bor (Document Text)) Text → Bool
shared_lends_owned (Borrowed v) = not (all_texts is_borrowed v.now)
shared_lends_owned (Owned v) = false

-- whether a document is lent in which a text or a key owns its bytes
abbrev pub lends_owned : {P : Type 0} → Lazy P (Bor (Document Text)) Text → Bool
lends_owned (Tape x) = false
lends_owned (Value c) = shared_lends_owned c

abbrev pub value_tree : Lazy TapeValue (Bor (Document Text)) Text → Tree
value_tree = lazy_tree tape_tree lent_tree cow_str_bytes

-- which member of several with one key counts: in a document there are none
abbrev pub value_choice : Lazy TapeValue (Bor (Document Text)) Text → Repeats
value_choice (Tape x) = tape_choice x
value_choice (Value c) = First

-- what is kept of a part of a tape
abbrev pub part_kept : TapeValue → Tree
part_kept x = keep_by (tape_choice x) (tape_tree x)

-- a lazy value as it is once it is written
abbrev pub value_kept : Lazy TapeValue (Bor (Document Text)) Text → Tree
value_kept = lazy_kept part_kept lent_tree cow_str_bytes

-- a lazy value as its readers see it
abbrev pub value_part : Lazy TapeValue (Bor (Document Text)) Text → Repeats × Tree
value_part v = (value_choice v, value_tree v)

-- the same, as an iterator yields it
abbrev pub formed : Lazy TapeValue (Bor (Document Text)) Text → Form × (Repeats × Tree)
formed v = (form v, value_part v)

-- the value of the member of a text that counts
abbrev pub value_found : Lazy TapeValue (Bor (Document Text)) Text → List ℕ → Option Tree
value_found v k = find_by (value_choice v) k (value_tree v)

-- a lazy value as comparisons see it: the tree whose first members are those that count
abbrev pub seen : Lazy TapeValue (Bor (Document Text)) Text → Tree
seen v = by_first (value_choice v) (value_tree v)
