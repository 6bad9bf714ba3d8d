-- What is left where a known key was inserted.
use Rattle.std.specs.Prelude.{◌≡◌, List, Option, Some, None}
use Rattle.std.specs.Cow.{cow_str_bytes}
use Rattle.std.specs.declared.alloc.Global.{Global}
use Rattle.std.specs.declared.borrow.CowStr.{CowStr}
use Rattle.sj_text_core.specs.Tree.{Tree}
use Rattle.sj_text_core.specs.Reads.{kind_of, as_members}
use Rattle.sj_text_core.specs.declared.value_type.ValueType.{ValueType}
use Rattle.sj_object.specs.Entries.{Entry}
use Rattle.sj_object.specs.Edits.{put_entry}
use Rattle.sj_object.specs.Keys.{is_borrowed}
use Rattle.sj_borrowed.specs.declared.known_key.error.Error.{Error}
use Rattle.sj_borrowed.specs.declared.known_key.error.Error.TheVariants.{NotAnObject, OutOfMemory}

-- a key of the same text, which is lent where the first is
abbrev pub IsCopy : CowStr Global → CowStr Global → Type 0
IsCopy key copy = (cow_str_bytes copy ≡ cow_str_bytes key) × (is_borrowed copy ≡ is_borrowed key)

-- a copy of the key was inserted with the value w
abbrev pub IsPut : {V : Type 0} → CowStr Global → V → List (Entry (CowStr Global) V) → List (Entry (CowStr Global) V) → Type 0
IsPut key w before after = (copy : CowStr Global) × IsCopy key copy × (after ≡ put_entry (copy, cow_str_bytes copy) w before)

abbrev pub why_in : {A : Type 0} → ValueType → Option A → Error
why_in kind None = NotAnObject kind
why_in kind (Some x) = OutOfMemory

-- why an edit of t is refused: it is no object, else memory
abbrev pub known_fault : Tree → Error
known_fault t = why_in (kind_of t) (as_members t)
