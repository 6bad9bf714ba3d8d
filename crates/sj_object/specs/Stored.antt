-- How a map stores its members: as a plain list, or, as a list or in a ring, beside the index of their hashes.
use Rattle.std.specs.Prelude.{◌≤◌, ℕ, List, length, Option, Some, None}
use Rattle.sj_object.specs.declared.map.members.Members.{Members}
use Rattle.sj_object.specs.declared.map.members.Members.TheVariants.{Listed, Ring}
use Rattle.sj_object.specs.declared.map.store.Store.{Store}
use Rattle.sj_object.specs.declared.map.store.Store.TheVariants.{Plain, Hashed}
use Rattle.sj_object.specs.Index.{IsTableOf}

module _ {K V : Type 0} where
  -- the members beside an index, in order
  abbrev pub stored_members : Members K V → List (K × V)
  stored_members (Listed v) = v.items
  stored_members (Ring r) = r.items

  -- the members in order
  abbrev pub pairs_of : Store K V → List (K × V)
  pairs_of (Plain v) = v.items
  pairs_of (Hashed b) = stored_members b.value.members

  -- how many buckets there are
  abbrev pub buckets_of : Store K V → Option ℕ
  buckets_of (Plain v) = None
  buckets_of (Hashed b) = Some (length b.value.table.heads.items)

  -- the members are those with these hashes, as far as an index keeps them
  abbrev pub IsIndexOf : List ℕ → Store K V → Type 0
  IsIndexOf hashes (Plain v) = length hashes ≤ 32
  IsIndexOf hashes (Hashed b) = IsTableOf hashes b.value.table
