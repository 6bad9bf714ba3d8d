-- How many members the memory of a room takes, and what stands in a map after members were put back in it.
use Rattle.std.specs.Prelude.{ℕ, length, min, Bool, not, ◌&&◌, if◌then◌else◌, nat_le, nat_lt, List, [], ◌∷◌, Option, Some, None}
use Rattle.std.specs.Option.{is_some}
use Rattle.std.specs.List.{insert}
use Rattle.std.specs.Global.{Box}
use Rattle.std.specs.Vec.{vec_capacity}
use Rattle.sj_object.specs.Entries.{Entry}
use Rattle.sj_object.specs.Edits.{lookup}
use Rattle.sj_object.specs.declared.map.store.Hashed.{Hashed}
use Rattle.sj_object.specs.declared.map.kept_room.Room.{Room}

module _ {K V : Type 0} where
  -- for how many members there is an index, or none is wanted
  abbrev pub indexed : Option (Box (Hashed K V)) → ℕ
  indexed None = 32
  indexed (Some b) = length b.value.table.heads.items

  -- how many members the room takes
  abbrev pub places : Room K V → ℕ
  places r = min (vec_capacity r.pairs) (indexed r.hashed)

  -- whether one more, whose text is k, is taken among these at the i-th place, in room for n
  abbrev pub takes : ℕ → ℕ → List ℕ → List (Entry K V) → Bool
  takes n i k es = (nat_lt (length es) n && nat_le i (length es)) && not (is_some (lookup k es))

  -- these with it, where it is taken
  abbrev pub restored : ℕ → ℕ → K × List ℕ → V → List (Entry K V) → List (Entry K V)
  restored n i q v es = if takes n i q.1 es then insert es i (q, v) else es

  -- those that were taken out one after another put back, the last first
  abbrev pub restored_all : (K → List ℕ) → ℕ → List (ℕ × K × V) → List (Entry K V) → List (Entry K V)
  restored_all t n [] es = es
  restored_all t n (g ∷ gs) es = restored n g.0 (g.1, t g.1) g.2 (restored_all t n gs es)
