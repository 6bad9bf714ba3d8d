-- Where texts are refused.
use Rattle.std.specs.Prelude.{◌≡◌, ◌≢◌, ◌≤◌, ◌⊎◌, ℕ, List, length, take, Bool, Option, Some, None, Result, Ok, Err, IsUtf8, if◌then◌else◌}
use Rattle.sj_text_core.specs.declared.error.ErrorKind.{ErrorKind}
use Rattle.sj_text_core.specs.declared.error.ErrorKind.TheVariants.{OutOfMemory}
use Rattle.sj_fault.specs.Place.{column_of}
use Rattle.sj_stream.specs.declared.unread.Place.{Place}
use Rattle.sj_stream.specs.declared.unread.Unread.{Unread}

-- the place stands in the text, by its column there
abbrev pub IsPlaceIn : List ℕ → Place → Type 0
IsPlaceIn s p = (p.at ≤ length s) × (p.column ≡ column_of (take p.at s))

abbrev pub HasPlaceIn : List ℕ → Option Place → Type 0
HasPlaceIn s None = ⊥
HasPlaceIn s (Some p) = IsPlaceIn s p

-- a refusal has a place in the text that is kept, but for want of memory; without such a text it has none
abbrev pub IsPlaceOf : Option (List ℕ) → ErrorKind → Option Place → Type 0
IsPlaceOf None why p = p ≡ None
IsPlaceOf (Some s) why p = (why ≡ OutOfMemory → p ≡ None) × (why ≢ OutOfMemory → HasPlaceIn s p)

-- where places are told the text is kept as it came, and a refusal has a place in it; else nothing is kept, and it has none. What is not kept, though places are told, is refused for that: as `OutOfMemory` where it is UTF-8
abbrev pub IsPlaced : Bool → List ℕ → Result ℕ Unread → Option (List ℕ) → Type 0
IsPlaced told s (Ok n) k = k ≡ (if told then Some s else None)
IsPlaced told s (Err u) k = IsPlaceOf k u.why u.place × ((k ≡ (if told then Some s else None)) ⊎ ((k ≡ None) × (IsUtf8 s → u.why ≡ OutOfMemory)))
