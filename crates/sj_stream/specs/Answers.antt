-- What is answered of a line.
use Rattle.std.specs.Prelude.{◌≡◌, ◌↔◌, ℕ, List, Option, Some, None, Result, Ok, Err, IsUtf8}
use Rattle.sj_text_core.specs.Tree.{Tree, IsWithin}
use Rattle.sj_text_core.specs.Grammar.{Spells}
use Rattle.sj_text_core.specs.Readings.{IsReadFault}
use Rattle.sj_text_core.specs.declared.error.ErrorKind.TheVariants.{InvalidUtf8}
use Rattle.sj_stream.specs.declared.unread.Unread.{Unread}

-- which line an answer is of
abbrev pub answer_line : Result ℕ Unread → ℕ
answer_line (Ok n) = n
answer_line (Err u) = u.line

-- t is what the text spells, or the text was refused and why says what may be said of it
abbrev pub IsRead : List ℕ → Result ℕ Unread → Option Tree → Type 0
IsRead s (Ok n) t = (u : Tree) × (t ≡ Some u) × Spells s u × IsWithin u
IsRead s (Err u) t = (t ≡ None) × (u.why ≡ InvalidUtf8 ↔ ¬ (IsUtf8 s)) × IsReadFault s u.why
