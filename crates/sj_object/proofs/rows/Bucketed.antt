-- How many buckets there are.
use Rattle.std.proofs.Common.{◌≡◌, [], ◌∷◌, length, refl, ap, Some, None, arith, Box, Vec, Global}
use Rattle.sj_object.specs.declared.map.store.Hashed.{Hashed as Hashes}
use Rattle.sj_object.specs.declared.map.store.Store.TheVariants.{Plain, Hashed}
use Rattle.sj_object.specs.Index.{buckets_for, HasRoom, NeedsHash}
use Rattle.sj_object.specs.Stored.{buckets_of}

at-32 : buckets_for 32 None ≡ None
at-32 = refl

at-33 : buckets_for 33 None ≡ Some 64
at-33 = refl

at-64 : buckets_for 64 (Some 64) ≡ Some 64
at-64 = refl

at-65 : buckets_for 65 (Some 64) ≡ Some 128
at-65 = refl

at-129 : buckets_for 129 (Some 128) ≡ Some 256
at-129 = refl

-- they are kept
after-removals : buckets_for 1 (Some 128) ≡ Some 128
after-removals = refl

plain : {K V : Type 0} (v : Vec (K × V) Global) → buckets_of (Plain v) ≡ None
plain v = refl

-- one for each head of a chain, also where all chains are empty
hashed : {K V : Type 0} (b : Box (Hashes K V) Global) → b.value.table.heads.items ≡ 0 ∷ 0 ∷ [] → buckets_of (Hashed b) ≡ Some 2
hashed b e = ap (λ hs. Some (length hs)) e

room-plain : HasRoom 32 None
room-plain = omega arith

no-room-plain : HasRoom 33 None → ⊥
no-room-plain h = omega (arith, h)

room-hashed : HasRoom 64 (Some 64)
room-hashed = (omega arith, omega arith)

no-room-hashed : HasRoom 65 (Some 64) → ⊥
no-room-hashed h = omega (arith, h.1)

-- the hash of a key to come is read from the 33rd insert on
needed-at-33 : NeedsHash 32 None
needed-at-33 = omega arith

not-needed-at-32 : NeedsHash 31 None → ⊥
not-needed-at-32 h = omega (arith, h)

needed-hashed : NeedsHash 1 (Some 128)
needed-hashed = tt
