-- Which texts are pointers (RFC 6901, section 3).
use Rattle.std.specs.Prelude.{ℕ, Bool, true, false, ◌==◌, ◌||◌, ◌&&◌, List, [], ◌∷◌, if◌then◌else◌}
use Rattle.sj_text_core.specs.Ascii.{slash, digit_zero, digit_one, tilde}

-- a text is empty, or its first byte is a slash
abbrev pub is_begun : List ℕ → Bool
is_begun [] = true
is_begun (b ∷ s) = b == slash

-- a text begins with a 0 or a 1
abbrev pub has_code : List ℕ → Bool
has_code [] = false
has_code (b ∷ s) = (b == digit_zero) || (b == digit_one)

-- behind each tilde stands a 0 or a 1
abbrev pub is_escaped : List ℕ → Bool
is_escaped [] = true
is_escaped (b ∷ s) = (if b == tilde then has_code s else true) && is_escaped s
