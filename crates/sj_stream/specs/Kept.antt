-- What is kept of a line.
use Rattle.std.specs.Prelude.{ℕ, List, Bool, true, false, Option, Some, None}
use Rattle.sj_stream.specs.declared.line_reader.Kept.{Kept}
use Rattle.sj_stream.specs.declared.line_reader.Kept.TheVariants.{Off, Text, Refused}

-- whether texts are kept
abbrev pub keeps : Kept → Bool
keeps Off = false
keeps (Text v) = true
keeps (Refused v) = true

-- the text that is kept
abbrev pub kept_text : Kept → Option (List ℕ)
kept_text Off = None
kept_text (Text v) = Some v.items
kept_text (Refused v) = None
