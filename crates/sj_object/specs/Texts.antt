-- Lists of texts.
use Rattle.std.specs.Prelude.{ℕ, Bool, true, not, ◌&&◌, List, [], ◌∷◌}
use Rattle.sj_text_core.specs.Keep.{is_seen}

-- no text stands twice
abbrev pub no_repeats : List (List ℕ) → Bool
no_repeats [] = true
no_repeats (k ∷ ks) = not (is_seen k ks) && no_repeats ks
