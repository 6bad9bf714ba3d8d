-- Whitespace that a vector test passes over.
use Rattle.std.specs.Prelude.{ℕ, Bool, not}
use Rattle.sj_text_core.specs.inner.Parse.{is_space}

-- a byte that is no whitespace
abbrev pub is_solid : ℕ → Bool
is_solid x = not (is_space x)
