-- What commands of lines leave.
use Rattle.std.proofs.Common.{◌≡◌, List, ℕ, sym, subst}
use Rattle.sj_text_core.specs.Tree.{Tree}
use Rattle.sj_run.specs.inner.Answered.{PassesOne, PassesLine}
use Rattle.sj_text_core.specs.declared.repeats.Repeats.{Repeats}
use Rattle.sj_commands.specs.CommandLines.{IsCommandOf}
use Rattle.sj_commands.specs.Commands.{PlainCommand}

-- a line whose only command's reply passes
pub line_passes : (t : Repeats × Tree) (line : List ℕ) (n : ℕ) (c : PlainCommand) → ((d : PlainCommand) → IsCommandOf line d → d ≡ c) → PassesOne t c n → PassesLine t line n
line_passes t line n c only h d is = subst (λ (x : PlainCommand). PassesOne t x n) (sym (only d is)) h
