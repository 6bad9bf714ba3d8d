-- What a session answers.
use Rattle.std.specs.Prelude.{◌≡◌, ℕ, ◌+◌, ◌^◌, ◌≤◌, List, length, ⊤}
use Rattle.sj_text_core.specs.Tree.{Tree, IsWithin}
use Rattle.sj_text_core.specs.Grammar.{Spells}
use Rattle.sj_text_core.specs.declared.repeats.Repeats.{Repeats}
use Rattle.sj_text_core.specs.declared.repeats.Repeats.TheVariants.{First}
use Rattle.sj_commands.specs.Commands.{PlainCommand}
use Rattle.sj_commands.specs.CommandLines.{AreCommandsOf}
use Rattle.sj_run.specs.Repeats.{replies_by, start_by}
use Rattle.sj_commands.specs.Lines.{document, lines}
use Rattle.sj_run.specs.Shown.{shown_all}
use Rattle.sj_run.specs.declared.document.Way.{Way}
use Rattle.sj_run.specs.declared.document.Way.TheVariants.{ByText, ByKnownKey}
use Rattle.sj_run.specs.declared.runs.Why.{Why}
use Rattle.sj_run.specs.declared.runs.Why.TheVariants as why
use Rattle.sj_run.specs.declared.sessions.Form.{Form}
use Rattle.sj_run.specs.declared.sessions.Form.TheVariants.{Owned, Borrowed, Lazy}
use Rattle.sj_run.specs.declared.sessions.SessionFault.{SessionFault}
use Rattle.sj_run.specs.declared.sessions.SessionFault.TheVariants as fault

-- the forms and ways that are served
abbrev pub IsServed : Form → Way → Type 0
IsServed Owned w = ⊤
IsServed Borrowed w = ⊤
IsServed Lazy ByText = ⊤
IsServed Lazy ByKnownKey = ⊥

-- The document spells a tree within the limit, and written are the replies to the lines' commands on that tree as the form reads it by the choice. The command lines keep the first member of each key.
pub record IsAnsweredBy (c : Repeats) (form : Form) (input written : List ℕ) : Type 0 where
  pub tree : Tree
  pub spelled : Spells (document input) tree
  pub within : IsWithin tree
  pub commands : List PlainCommand
  pub lines_are : AreCommandsOf (lines input) commands
  pub replies : written ≡ shown_all (replies_by (start_by c form tree) commands)

-- The document spells a tree within the limit, and n bytes with the replies to the lines' commands on that tree pass 2^64-1.
pub record PassesAllBy (c : Repeats) (form : Form) (input : List ℕ) (n : ℕ) : Type 0 where
  pub tree : Tree
  pub spelled : Spells (document input) tree
  pub within : IsWithin tree
  pub passes : (commands : List PlainCommand) → AreCommandsOf (lines input) commands → 2 ^ 64 ≤ n + length (shown_all (replies_by (start_by c form tree) commands))

-- the same where the first member of each key counts
abbrev pub IsAnswered : Form → List ℕ → List ℕ → Type 0
IsAnswered form input written = IsAnsweredBy First form input written

abbrev pub PassesAll : Form → List ℕ → ℕ → Type 0
PassesAll form input n = PassesAllBy First form input n

-- a session's fault where a command was refused
abbrev pub fault_of : Why → SessionFault
fault_of why.OutOfMemory = fault.OutOfMemory
fault_of why.TooLong = fault.TooLong
