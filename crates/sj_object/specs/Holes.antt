-- Holes in a table, whose members were taken out: each is the position of its place, and they fall, so that the places in front of a hole are as they were. Only private clauses cite it, and the invariant of a map.
use Rattle.std.specs.Prelude.{◌≡◌, ◌<◌, ◌≤◌, ◌%◌, ℕ, suc, List, [], ◌∷◌, length, slice_index, if◌then◌else◌, nat_le, ⊤}
use Rattle.std.specs.List.{remove}
use Rattle.sj_object.specs.Chains.{last_below}

-- the place that a place had before the member at position i was taken out
abbrev pub raised : ℕ → ℕ → ℕ
raised i p = if nat_le p i then p else suc p

-- the place in the table of a place among the members that are there
abbrev pub raised_by : List ℕ → ℕ → ℕ
raised_by [] p = p
raised_by (q ∷ qs) p = raised q (raised_by qs p)

-- what is there beside the holes
abbrev pub without : {X : Type 0} → List ℕ → List X → List X
without [] xs = xs
without (q ∷ qs) xs = without qs (remove xs q)

-- each is a position among n, behind the first g, and they fall
abbrev pub AreHoles : ℕ → List ℕ → ℕ → Type 0
AreHoles g [] n = ⊤
AreHoles g (q ∷ qs) n = (g ≤ q) × ((q < n) × AreHoles g qs q)

-- the members that are there stand in their chains: a head for each bucket, and for each member the link to the next one, all as places in the table
pub record IsChained (n : ℕ) (qs hs links heads : List ℕ) : Type 0 where
  pub count : length heads ≡ n
  pub size : length links ≡ length hs
  pub starts : (b : ℕ) → b < n → slice_index heads b ≡ raised_by qs (last_below n b (without qs hs) (length (without qs hs)))
  pub nexts : (i s : ℕ) → i < length (without qs hs) → suc s ≡ raised_by qs (suc i) → slice_index links s ≡ raised_by qs (last_below n (slice_index (without qs hs) i % n) (without qs hs) i)
