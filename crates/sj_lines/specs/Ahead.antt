-- What lines are still to come.
use Rattle.std.specs.Prelude.{ℕ, suc, List}
use Rattle.sj_lines.specs.Lines.{full_lines, numbered}
use Rattle.sj_lines.specs.declared.lines.Line.{Line}
use Rattle.sj_lines.specs.declared.lines.Lines.{Lines}

-- the texts ahead, by the numbers of their lines
abbrev pub ahead : Lines → List (ℕ × List ℕ)
ahead s = numbered (suc s.line) (full_lines s.rest.now)

-- a line as the number and the text that it has
abbrev pub numbered_text : Line → ℕ × List ℕ
numbered_text l = (l.number, l.text.now)
