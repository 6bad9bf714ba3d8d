-- What a readable text begins with.
use Rattle.std.specs.Prelude.{List, ℕ, ◌++◌}
use Rattle.sj_text_core.specs.Grammar.{IsReadable}

-- some readable text begins with the bytes
abbrev pub IsBegin : List ℕ → Type 0
IsBegin b = (rest : List ℕ) × IsReadable (b ++ rest)
