-- What a map ends as, where a call lends one of its values.
use Rattle.std.specs.Prelude.{ℕ, Bool, List, Option, Result}
use Rattle.std.specs.Borrow.{Lends, LendsIf, LendsIfOk, MutBor, Fml, RattleType}
use Rattle.std.specs.declared.alloc.AllocError.{AllocError}
use Rattle.sj_object.specs.declared.hasher.KeyHasher as hasher
use Rattle.sj_object.specs.HashMap.{Contents}
use Rattle.sj_object.specs.Edits.{with_value, with_value_at, with_entry}
use Rattle.sj_object.specs.contracts.map.HashMap.{the_row}

-- what a bound `K: KeyText` gives
abbrev pub KeyMembers : Type 0 → Type 0
KeyMembers K = record { eq : K → K → Bool; text_of : K → List ℕ }

module _ (K V S : RattleType) (key : KeyMembers K.Denot) (hash : hasher.Ghosts S.Denot) where
  abbrev pub map_row : RattleType
  map_row = the_row K V S (record { text_of = key.text_of }) (record { eq = key.eq }) hash

  -- the value at the text is the last one written through r, and at `None` the map stays as it is
  abbrev pub LendsValue : MutBor (Contents K.Denot V.Denot S.Denot) → List ℕ → Option (MutBor V.Denot) → Fml
  LendsValue m k r = LendsIf map_row V m r (with_value m.now k) m.now

  -- the i-th value is the last one written through r
  abbrev pub LendsAt : MutBor (Contents K.Denot V.Denot S.Denot) → ℕ → MutBor V.Denot → Fml
  LendsAt m i r = Lends map_row V m r (with_value_at m.now i)

  -- the last value written through r was inserted, and at an `Err` the map stays as it is
  abbrev pub LendsEntry : MutBor (Contents K.Denot V.Denot S.Denot) → K.Denot × List ℕ → Result (MutBor V.Denot) AllocError → Fml
  LendsEntry m q r = LendsIfOk map_row V m r (with_entry m.now q) m.now
