-- Characters in the order of their units. Only private clauses cite it.
use Rattle.std.specs.Prelude.{ℕ, ◌+◌, nat_lt, if◌then◌else◌}

-- a number that orders characters as their units do: those of two units, which begin with one from 0xD800 to 0xDBFF, stand in front of the last of one unit
abbrev pub rank : ℕ → ℕ
rank c = if nat_lt c 0xE000 then c else if nat_lt c 0x1_0000 then c + 0x11_0000 else c
