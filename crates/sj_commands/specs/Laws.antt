-- What holds of the lines of an input and of their commands.
use Rattle.std.specs.Prelude.{◌≡◌, ℕ, List, ◌++◌}
pub use Rattle.sj_lines.specs.Laws.{LinesJoin}
use Rattle.sj_commands.specs.Lines.{document}
use Rattle.sj_commands.specs.Commands.{PlainCommand}
use Rattle.sj_commands.specs.CommandLines.{IsCommandOf}

-- the document is the beginning of the input
abbrev pub DocumentBegins : Type 0
DocumentBegins = (b : List ℕ) → (rest : List ℕ) × (b ≡ document b ++ rest)

-- a line has exactly one command
abbrev pub OneCommand : Type 0
OneCommand = (line : List ℕ) → (c : PlainCommand) × IsCommandOf line c × ((d : PlainCommand) → IsCommandOf line d → d ≡ c)
