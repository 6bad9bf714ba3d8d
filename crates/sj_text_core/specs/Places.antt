-- The position that a token names on an array (RFC 6901, section 4).
use Rattle.std.specs.Prelude.{ℕ, ◌==◌, ◌&&◌, ◌^◌, nat_lt, Bool, true, false, List, [], ◌∷◌, Option, Some, None, if◌then◌else◌}
use Rattle.std.specs.Char.{is_ascii_digit}
use Rattle.std.specs.List.{list_all}
use Rattle.sj_text_core.specs.Ascii.{digit_zero}
use Rattle.sj_text_core.specs.Grammar.{value_of}

abbrev pub is_empty : List ℕ → Bool
is_empty [] = true
is_empty (b ∷ s) = false

-- `0`, or digits of which the first is no 0
abbrev pub is_index : List ℕ → Bool
is_index [] = false
is_index (b ∷ s) = if b == digit_zero then is_empty s else list_all is_ascii_digit (b ∷ s)

-- the number that such digits write, where it is a position; no other token is one, `-` neither
abbrev pub position_of : List ℕ → Option ℕ
position_of s = if is_index s && nat_lt (value_of s) (2 ^ 64) then Some (value_of s) else None
