-- Digits as lanes of a vector.
use Rattle.std.specs.Prelude.{ℕ, ◌+◌, ◌%◌, Bool, nat_le}

-- a byte less that of the digit 0
abbrev pub lane_of : ℕ → ℕ
lane_of c = (c + 208) % 256

-- a lane that no digit gives
abbrev pub is_other : ℕ → Bool
is_other d = nat_le 10 d
