-- How generators lay out what they write: compact where there is no number of spaces, else pretty with that many a level.
use Rattle.std.specs.Prelude.{ℕ, ◌+◌, ◌*◌, ◌^◌, ◌<◌, List, [], ◌∷◌, Option, Some, None, replicate}
use Rattle.sj_text_core.specs.Ascii.{line_feed, space}

-- the first text in pretty prints, the second in compact ones
abbrev pub by_style : Option ℕ → List ℕ → List ℕ → List ℕ
by_style None pretty compact = compact
by_style (Some spaces) pretty compact = pretty

-- nothing in compact prints; in pretty ones a line feed, and the spaces of the level
abbrev pub line : Option ℕ → ℕ → List ℕ
line None level = []
line (Some spaces) level = line_feed ∷ replicate (spaces * level) space

-- one more level can be counted, and in pretty prints a line at it fits memory's numbers
abbrev pub CanIndent : Option ℕ → ℕ → Type 0
CanIndent None level = level + 1 < 2 ^ 64
CanIndent (Some spaces) level = (level + 1 < 2 ^ 64) × ((level + 1) * spaces + 1 < 2 ^ 64)
