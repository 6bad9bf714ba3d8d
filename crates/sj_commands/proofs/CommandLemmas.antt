-- Commands of lines.
use Rattle.std.proofs.Common.{◌≡◌, ◌∙◌, List, ℕ, sym, ap, inl, inr}
use Rattle.sj_text_core.specs.Tree.{Tree, IsWithin}
use Rattle.sj_text_core.specs.Grammar.{Spells, IsReadable}
use Rattle.sj_text_core.specs.Keep.{keep}
use Rattle.sj_commands.specs.CommandLines.{IsCommandOf, command_in}
use Rattle.sj_commands.specs.Commands.{PlainCommand, bad}

-- a line that spells a tree, and what it fits
pub reads_tree : (line : List ℕ) (t u : Tree) (c : PlainCommand) → Spells line u → IsWithin u → t ≡ keep u → c ≡ command_in t → IsCommandOf line c
reads_tree line t u c s w k e = inl (u, s, w, e ∙ ap command_in k)

-- it fits nothing else
pub reads_one : (line : List ℕ) (t : Tree) (c d : PlainCommand) → ((u : Tree) → Spells line u → t ≡ keep u) → IsReadable line → c ≡ command_in t → IsCommandOf line d → d ≡ c
reads_one line t c d only r e (inl h) = h.3 ∙ ap command_in (sym (only h.0 h.1)) ∙ sym e
reads_one line t c d only r e (inr h) = absurd (h.0 r)

-- a line that is not read is bad, and nothing else
pub reads_bad : (line : List ℕ) (c : PlainCommand) → (IsReadable line → ⊥) → c ≡ bad → IsCommandOf line c
reads_bad line c h e = inr (h, e)

pub reads_bad_only : (line : List ℕ) (c d : PlainCommand) → (IsReadable line → ⊥) → c ≡ bad → IsCommandOf line d → d ≡ c
reads_bad_only line c d h e (inl r) = absurd (h (r.0, r.1, r.2))
reads_bad_only line c d h e (inr r) = r.1 ∙ sym e
