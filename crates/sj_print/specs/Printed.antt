-- How long compact prints are, node by node.
use Rattle.std.specs.Prelude.{◌≡◌, ℕ, ◌+◌, ◌-◌, ◌^◌, min}
use Rattle.sj_print.specs.declared.output.count.Count.{Count}

-- the brackets around so many parts, and the commas between them
abbrev pub frame_len : ℕ → ℕ
frame_len parts = 2 + (parts - 1)

-- so many bytes were counted; from 2 ^ 64 on it is only known that they are as many
abbrev pub IsCounted : ℕ → Count → Type 0
IsCounted n count = min count.total (2 ^ 64) ≡ min n (2 ^ 64)

-- so many bytes more were counted
abbrev pub Counts : ℕ → Count → Count → Type 0
Counts more old new = IsCounted (old.total + more) new
