-- Runs of bytes that stand for themselves in a printed text.
use Rattle.std.specs.Prelude.{◌≡◌, ℕ, Bool, not, ◌||◌, ◌==◌, nat_lt, List, length}
use Rattle.std.specs.List.{prefix_len}

-- a byte that is printed by an escape: a quote, a backslash, a control byte
abbrev pub is_stop : ℕ → Bool
is_stop x = (x == 34) || (x == 92) || nat_lt x 32

-- a byte that is copied
abbrev pub is_plain : ℕ → Bool
is_plain x = not (is_stop x)

-- all bytes are copied
abbrev pub IsAllPlain : List ℕ → Type 0
IsAllPlain b = prefix_len is_plain b ≡ length b
