-- What private clauses alone cite beside Kept.
use Rattle.std.specs.Prelude.{⊤}
use Rattle.sj_stream.specs.declared.line_reader.Kept.{Kept}
use Rattle.sj_stream.specs.declared.line_reader.Kept.TheVariants.{Off, Text, Refused}

abbrev pub IsRefused : Kept → Type 0
IsRefused Off = ⊥
IsRefused (Text v) = ⊥
IsRefused (Refused v) = ⊤
