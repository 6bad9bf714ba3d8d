-- The text that writes a pointer's tokens (RFC 6901, section 3).
use Rattle.std.specs.Prelude.{ℕ, ◌==◌, List, [], ◌∷◌, if◌then◌else◌}
use Rattle.std.specs.List.{flat_map}
use Rattle.sj_text_core.specs.Ascii.{slash, digit_zero, digit_one, tilde}

-- the byte c of a token: `~0` for a tilde, `~1` for a slash, and any other as it is
abbrev pub part_text : ℕ → List ℕ
part_text c = if c == tilde then tilde ∷ digit_zero ∷ [] else (if c == slash then tilde ∷ digit_one ∷ [] else c ∷ [])

-- a token, escaped
abbrev pub token_text : List ℕ → List ℕ
token_text k = flat_map part_text k

-- tokens, each with a slash in front
abbrev pub pointer_text : List (List ℕ) → List ℕ
pointer_text ks = flat_map (λ k. slash ∷ token_text k) ks
