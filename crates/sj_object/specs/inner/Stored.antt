-- What private clauses alone cite beside Stored.
use Rattle.std.specs.Prelude.{◌≡◌, ◌+◌, ◌<◌, ℕ, List, length, Option, Some, None, ⊤}
use Rattle.std.specs.Global.{Box}
use Rattle.std.specs.Vec.{vec_len, vec_capacity}
use Rattle.std.specs.VecDeque.{deque_len, deque_capacity}
use denote.Struct.Props.{props}
use Rattle.sj_object.specs.declared.map.members.Members.{Members}
use Rattle.sj_object.specs.declared.map.members.Members.TheVariants.{Listed, Ring}
use Rattle.sj_object.specs.declared.map.store.Hashed.{Hashed as HashedOf}
use Rattle.sj_object.specs.declared.map.store.Store.{Store}
use Rattle.sj_object.specs.declared.map.store.Store.TheVariants.{Plain, Hashed}
use Rattle.sj_object.specs.inner.Holes.{AreHoles-prop}
use Rattle.sj_object.specs.Index.{IsTable, hashes_in}
use Rattle.sj_object.specs.Stored.{stored_members, IsIndexOf}

module _ {K V : Type 0} where
  -- one more has a place there
  abbrev pub HasSpareIn : Members K V → Type 0
  HasSpareIn (Listed v) = vec_len v < vec_capacity v
  HasSpareIn (Ring r) = deque_len r < deque_capacity r

  -- one more member has a place
  abbrev pub HasSpare : Store K V → Type 0
  HasSpare (Plain v) = vec_len v < vec_capacity v
  HasSpare (Hashed b) = HasSpareIn b.value.members

  -- an index keeps a hash for each member
  abbrev pub IsIndexed : Store K V → Type 0
  IsIndexed (Plain v) = ⊤
  IsIndexed (Hashed b) = IsTable b.value.table × (length (hashes_in b.value.table) ≡ length (stored_members b.value.members))

  -- so too, and one more, which stands last
  abbrev pub IsIndexedAhead : Store K V → Type 0
  IsIndexedAhead (Plain v) = ⊤
  IsIndexedAhead (Hashed b) = IsTable b.value.table × (length (hashes_in b.value.table) ≡ length (stored_members b.value.members) + 1)

  pub IsIndexOf-prop : (hashes : List ℕ) (s : Store K V) → IsProp (IsIndexOf hashes s)
  IsIndexOf-prop hashes (Plain v) = hlevel props
  IsIndexOf-prop hashes (Hashed b) = hlevel (props, AreHoles-prop)

  -- an index that is there has a table, and no members
  abbrev pub IsEmptied : Option (Box (HashedOf K V)) → Type 0
  IsEmptied None = ⊤
  IsEmptied (Some b) = IsTable b.value.table × (length (stored_members b.value.members) ≡ 0)

  pub IsEmptied-prop : (o : Option (Box (HashedOf K V))) → IsProp (IsEmptied o)
  IsEmptied-prop None = hlevel props
  IsEmptied-prop (Some b) = hlevel (props, AreHoles-prop)
