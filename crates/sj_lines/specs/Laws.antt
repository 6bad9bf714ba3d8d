-- What holds of the lines of an input.
use Rattle.std.specs.Prelude.{◌≡◌, ℕ, ◌+◌, List, ◌++◌, length, map}
use Rattle.std.specs.List.{concat}
use Rattle.sj_lines.specs.Lines.{full_lines, line_texts, numbered, numbered_lines}

-- the lines, one behind another, are the input
abbrev pub LinesJoin : Type 0
LinesJoin = (b : List ℕ) → concat (full_lines b) ≡ b

-- the texts of an input are those of its lines that have one, in order: none is left out
abbrev pub NoneLeftOut : Type 0
NoneLeftOut = (b : List ℕ) → map (λ p. p.1) (numbered_lines b) ≡ line_texts (full_lines b)

-- the numbers of lines go on behind those of the lines in front of them
abbrev pub NumbersGoOn : Type 0
NumbersGoOn = (n : ℕ) (ls ms : List (List ℕ)) → numbered n (ls ++ ms) ≡ numbered n ls ++ numbered (n + length ls) ms
