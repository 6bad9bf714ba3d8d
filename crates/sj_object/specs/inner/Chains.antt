-- What private clauses alone cite beside Chains.
use Rattle.std.specs.Prelude.{◌≡◌, ◌<◌, ◌==◌, ◌+◌, ◌-◌, ◌%◌, ℕ, if◌then◌else◌, List, length, slice_index, nat_le}
use Rattle.sj_object.specs.Chains.{last_below}

-- the first k members stand in their chains: a head for each bucket, and for each member the link to the next one
pub record IsLinked (n : ℕ) (hs links heads : List ℕ) (k : ℕ) : Type 0 where
  pub count : length heads ≡ n
  pub size : length links ≡ length hs
  pub starts : (b : ℕ) → b < n → slice_index heads b ≡ last_below n b hs k
  pub nexts : (i : ℕ) → i < k → slice_index links i ≡ last_below n (slice_index hs i % n) hs i

-- where a chain goes that went to place p, once it passes over the member at position i, whose link is next
abbrev pub passed : ℕ → ℕ → ℕ → ℕ
passed i next p = if p == i + 1 then next else p

-- a place once the member at position i is taken out, which no chain goes to
abbrev pub lowered : ℕ → ℕ → ℕ
lowered i p = if nat_le p i then p else p - 1
