-- What is left of a map's entries, once a test was asked at each.
use Rattle.std.specs.Prelude.{◌≡◌, ℕ, Bool, List}
use Rattle.std.specs.Map.Calls.{RetainsPairs}
use Rattle.sj_object.specs.Entries.{Entry, entries_of}

-- the test f was asked at each entry in turn, and the second list has the entries at which it answered `true`, with the values that it left there
abbrev pub RetainsEntries : {K V F : Type 0} → (K → List ℕ) → (F → K → V → Bool → V → F → Type 0) → F → List (Entry K V) → List (Entry K V) → Type 0
RetainsEntries {K} {V} t T f es fs = (ps : List (K × V)) × (qs : List (K × V)) × (es ≡ entries_of t ps) × (fs ≡ entries_of t qs) × RetainsPairs T f ps qs
