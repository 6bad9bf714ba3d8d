-- The chains of a map's members by their hashes. A place is a position counted from 1, and 0 is the end of a chain. Only private clauses cite it.
use Rattle.std.specs.Prelude.{◌==◌, ◌%◌, ℕ, zero, suc, Bool, if◌then◌else◌, List, slice_index}

-- whether a hash belongs to bucket b of n
abbrev pub is_in_bucket : ℕ → ℕ → ℕ → Bool
is_in_bucket n b h = h % n == b

-- the place of the last of the first k members in bucket b of n, where hs are the members' hashes
unfoldable pub last_below : ℕ → ℕ → List ℕ → ℕ → ℕ
last_below n b hs zero = 0
last_below n b hs (suc k) = if is_in_bucket n b (slice_index hs k) then suc k else last_below n b hs k
