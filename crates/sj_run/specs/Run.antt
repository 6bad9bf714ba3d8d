-- What a refused command leaves, and what a run that is refused has answered.
use Rattle.std.specs.Prelude.{◌≡◌, ◌⊎◌, List, ◌∷◌, ◌++◌, ⊤}
use Rattle.sj_text_core.specs.Repeats.{keep_by}
use Rattle.sj_text_core.specs.Tree.{Tree}
use Rattle.sj_text_core.specs.declared.repeats.Repeats.{Repeats}
use Rattle.sj_text_core.specs.declared.repeats.Repeats.TheVariants.{First}
use Rattle.sj_text_core.specs.declared.error.WriteError.{WriteError}
use Rattle.sj_text_core.specs.declared.error.WriteError.TheVariants as write_error
use Rattle.sj_commands.specs.Commands.{PlainCommand, read, write, bad}
use Rattle.sj_run.specs.Replies.{PlainReply}
use Rattle.sj_run.specs.Answers.{IsLong}
use Rattle.sj_run.specs.Repeats.{answer_by, replies_by, part_after}
use Rattle.sj_run.specs.declared.runs.Why.{Why}
use Rattle.sj_run.specs.declared.runs.Why.TheVariants.{OutOfMemory, TooLong}

-- A read leaves the tree and the choice. A write leaves them, or the members that count alone, or what the write makes of it.
abbrev pub Leaves : Repeats × Tree → PlainCommand → Repeats × Tree → Type 0
Leaves d (read p r) u = u ≡ d
Leaves d (write p w) u = (u ≡ d) ⊎ ((u ≡ (First, keep_by d.0 d.1)) ⊎ (u ≡ (answer_by d (write p w)).0))
Leaves d bad u = u ≡ d

-- why a command is refused: too long only where its reply is a print past 2^64-1 bytes
abbrev pub MayRefuse : Repeats × Tree → PlainCommand → Why → Type 0
MayRefuse d c TooLong = IsLong (answer_by d c).1
MayRefuse d c OutOfMemory = ⊤

-- The commands before the refused one were answered, and that one leaves what a refused command leaves.
pub record Faults (d : Repeats × Tree) (cs : List PlainCommand) (replies : List PlainReply) (why : Why) (after : Repeats × Tree) : Type 0 where
  pub before : List PlainCommand
  pub refused : PlainCommand
  pub behind : List PlainCommand
  pub are : cs ≡ before ++ refused ∷ behind
  pub told : replies ≡ replies_by d before
  pub may : MayRefuse (part_after d before) refused why
  pub leaves : Leaves (part_after d before) refused after

-- why a print is refused
abbrev pub print_fault : WriteError → Why
print_fault write_error.TooLong = TooLong
print_fault write_error.OutOfMemory = OutOfMemory
