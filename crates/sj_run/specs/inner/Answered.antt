-- What private clauses alone cite beside Answered.
use Rattle.std.specs.Prelude.{◌≡◌, ℕ, ◌+◌, ◌^◌, ◌≤◌, List, ◌++◌, length}
use Rattle.sj_text_core.specs.Tree.{Tree, IsWithin}
use Rattle.sj_text_core.specs.Grammar.{Spells}
use Rattle.sj_text_core.specs.declared.repeats.Repeats.{Repeats}
use Rattle.sj_commands.specs.Commands.{PlainCommand}
use Rattle.sj_commands.specs.CommandLines.{IsCommandOf}
use Rattle.sj_commands.specs.Lines.{full_lines, line_texts}
use Rattle.sj_run.specs.Repeats.{answer_by, start_by}
use Rattle.sj_run.specs.declared.sessions.Form.{Form}
use Rattle.sj_run.specs.Shown.{reply_text, shown}
use Rattle.sj_run.specs.Answered.{AnswersLines, PassesLines}

-- a command was answered: the choice and the tree d became u, and the output grew by the text of the reply
pub record AnswersCommand (d : Repeats × Tree) (c : PlainCommand) (u : Repeats × Tree) (old new : List ℕ) : Type 0 where
  pub after : u ≡ (answer_by d c).0
  pub shows : new ≡ old ++ reply_text (answer_by d c).1

-- the command of a line was answered, which is its only one
pub record AnswersLine (d : Repeats × Tree) (line : List ℕ) (u : Repeats × Tree) (old new : List ℕ) : Type 0 where
  pub command : PlainCommand
  pub is : IsCommandOf line command
  pub only : (c : PlainCommand) → IsCommandOf line c → c ≡ command
  pub after : u ≡ (answer_by d command).0
  pub shows : new ≡ old ++ shown (answer_by d command).1

-- so many bytes and the reply pass 2^64-1
abbrev pub PassesOne : Repeats × Tree → PlainCommand → ℕ → Type 0
PassesOne d c n = 2 ^ 64 ≤ n + length (reply_text (answer_by d c).1)

-- the same of the line's command
abbrev pub PassesLine : Repeats × Tree → List ℕ → ℕ → Type 0
PassesLine d line n = (c : PlainCommand) → IsCommandOf line c → PassesOne d c n

-- a text was read to a document of the form, and the commands of lines were answered on it
pub record AnswersText (c : Repeats) (form : Form) (text lines old new : List ℕ) : Type 0 where
  pub tree : Tree
  pub spelled : Spells text tree
  pub within : IsWithin tree
  pub last : Repeats × Tree
  pub answers : AnswersLines (start_by c form tree) (line_texts (full_lines lines)) last old new

-- the same, where so many bytes and all replies pass 2^64-1
pub record PassesText (c : Repeats) (form : Form) (text lines : List ℕ) (n : ℕ) : Type 0 where
  pub tree : Tree
  pub spelled : Spells text tree
  pub within : IsWithin tree
  pub passes : PassesLines (start_by c form tree) (line_texts (full_lines lines)) n
