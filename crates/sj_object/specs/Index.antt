-- The index of a map's members by their hashes. A map of up to 32 members that never had more is a plain list, and has none.
use Rattle.std.specs.Prelude.{◌≡◌, ◌+◌, ◌<◌, ◌≤◌, ◌*◌, ◌/◌, ◌^◌, ℕ, Bool, true, false, List, length, drop, Option, Some, None, if◌then◌else◌, nat_le, ⊤, refl}
use Rattle.std.specs.Vec.{vec_capacity}
use Rattle.std.proofs.Common.{arith}
use Rattle.std.proofs.lemmas.Bool.Decides.{nat_tests}
use Rattle.sj_object.specs.declared.map.index.Table.{Table}
use Rattle.sj_object.specs.Holes.{without, AreHoles, IsChained}

-- the hashes of the members that are there, and of those in front that left at the front
abbrev pub hashes_beside : Table → List ℕ
hashes_beside t = without t.holes.items t.hashes.items

-- the hashes of the members that are there
abbrev pub hashes_in : Table → List ℕ
hashes_in t = drop t.gone (hashes_beside t)

-- the members whose hashes t keeps stand in their chains, those that left at the front too. There is room for a quarter more than there are buckets
pub record IsTable (t : Table) : Type 0 where
  pub bits : t.bits < 64
  pub some : 64 ≤ length t.heads.items
  pub most : (length t.holes.items ≤ 8) × (8 ≤ vec_capacity t.holes)
  pub holes : AreHoles t.gone t.holes.items (length t.hashes.items)
  pub gone : t.gone ≤ length (hashes_beside t)
  pub few : t.gone + length t.holes.items ≤ length t.heads.items / 4
  pub space : (length t.heads.items + length t.heads.items / 4 ≤ vec_capacity t.hashes) × (length t.heads.items + length t.heads.items / 4 ≤ vec_capacity t.links)
  pub room : length (hashes_in t) ≤ 2 ^ t.bits
  pub linked : IsChained (2 ^ t.bits) t.holes.items t.hashes.items t.links.items t.heads.items

-- t is the table of members with those hashes
pub record IsTableOf (hashes : List ℕ) (t : Table) : Type 0 where
  pub same : hashes_in t ≡ hashes
  pub table : IsTable t

-- how many buckets there are once so many members stand in the map, from those before
abbrev pub buckets_for : ℕ → Option ℕ → Option ℕ
buckets_for members None = if nat_le members 32 then None else Some 64
buckets_for members (Some n) = if nat_le members n then Some n else Some (2 * n)

-- a plain list has at most 32 members, and a hashed map at least as many buckets as members
abbrev pub HasRoom : ℕ → Option ℕ → Type 0
HasRoom members None = members ≤ 32
HasRoom members (Some n) = (0 < n) × (members ≤ n)

-- there is room for one member more, once there are buckets for it
pub HasRoom-more : (n m : ℕ) (o : Option ℕ) → n ≤ m + 1 → HasRoom m o → HasRoom n (buckets_for n o)
HasRoom-more n m None l h = by_test (nat_le n 32) refl where
  by_test : (c : Bool) → nat_le n 32 ≡ c → HasRoom n (if c then None else Some 64)
  by_test true e = grind (arith, nat_tests)
  by_test false e = (omega arith, omega arith)
HasRoom-more n m (Some k) l h = by_test (nat_le n k) refl h where
  by_test : (c : Bool) → nat_le n k ≡ c → HasRoom m (Some k) → HasRoom n (if c then Some k else Some (2 * k))
  by_test true e r = let f : n ≤ k = grind (arith, nat_tests) in (r.0, f)
  by_test false e r = (omega (arith, r.0), omega (arith, r.0, r.1))

-- whether the hash of a member to come is read: there are buckets, or it makes some
abbrev pub NeedsHash : ℕ → Option ℕ → Type 0
NeedsHash members None = 32 ≤ members
NeedsHash members (Some n) = ⊤
