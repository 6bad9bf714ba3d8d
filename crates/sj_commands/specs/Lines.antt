-- How a session's input is cut into a document and command lines.
use Rattle.std.specs.Prelude.{ℕ, Bool, List, [], ◌∷◌, ◌++◌, if◌then◌else◌, codes, bytes_eq}
pub use Rattle.sj_lines.specs.Lines.{full_lines, line_text, line_texts}

-- the line that parts the document from the commands
abbrev pub is_mark : List ℕ → Bool
is_mark l = bytes_eq (line_text l) (codes "---")

abbrev pub before_mark : List (List ℕ) → List ℕ
before_mark [] = []
before_mark (l ∷ ls) = if is_mark l then [] else l ++ before_mark ls

abbrev pub after_mark : List (List ℕ) → List (List ℕ)
after_mark [] = []
after_mark (l ∷ ls) = if is_mark l then ls else after_mark ls

-- all bytes before the first line `---`; the whole input where there is none
abbrev pub document : List ℕ → List ℕ
document b = before_mark (full_lines b)

-- the lines behind that line which have bytes
abbrev pub lines : List ℕ → List (List ℕ)
lines b = line_texts (after_mark (full_lines b))
