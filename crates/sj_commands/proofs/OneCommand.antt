-- Each line has one command.
use Rattle.std.proofs.Common.{◌≡◌, ◌∙◌, ℕ, Bool, true, false, List, Option, Some, None, IsUtf8, inl, inr, refl, sym, ap, true≢false}
use Rattle.std.specs.Str.{is_utf8}
use Rattle.std.proofs.lemmas.Str.{IsUtf8-from_is_utf8, is_utf8-from_IsUtf8}
use Rattle.sj_text_core.specs.Tree.{Tree}
use Rattle.sj_text_core.specs.Keep.{keep}
use Rattle.sj_text_core.specs.inner.Parse.{read_tree}
use Rattle.sj_text_core.proofs.Proper.{spells_utf8}
use Rattle.sj_text_core.proofs.parse.One.{one_tree}
use Rattle.sj_tape.proofs.Reading.{unreadable, is_read}
use Rattle.sj_commands.specs.Commands.{PlainCommand, bad}
use Rattle.sj_commands.specs.CommandLines.{IsCommandOf, command_in}
use Rattle.sj_commands.proofs.CommandLemmas.{reads_tree, reads_one, reads_bad, reads_bad_only}

-- of a text, what the parser reads of it says which
command_at : (line : List ℕ) (o : Option Tree) → IsUtf8 line → read_tree 1024 line ≡ o → (c : PlainCommand) × IsCommandOf line c
command_at line None u e = (bad, reads_bad line bad (unreadable line e) refl)
command_at line (Some t) u e = let r = is_read line t u e in (command_in (keep t), reads_tree line (keep t) t (command_in (keep t)) r.spelled r.within refl refl)

-- bytes that are no text are bad
has_command : (line : List ℕ) (b : Bool) → is_utf8 line ≡ b → (c : PlainCommand) × IsCommandOf line c
has_command line true e = command_at line (read_tree 1024 line) (IsUtf8-from_is_utf8 line e) refl
has_command line false e = (bad, reads_bad line bad (λ r. true≢false (sym (is_utf8-from_IsUtf8 line (spells_utf8 line r.0 r.1)) ∙ e)) refl)

-- no other is
same_command : (line : List ℕ) (c d : PlainCommand) → IsCommandOf line c → IsCommandOf line d → d ≡ c
same_command line c d (inl h) i = reads_one line (keep h.0) c d (λ u s. ap keep (one_tree line h.0 u h.1 s)) (h.0, h.1, h.2) h.3 i
same_command line c d (inr h) i = reads_bad_only line c d h.0 h.1 i

pub one-command : (line : List ℕ) → (c : PlainCommand) × IsCommandOf line c × ((d : PlainCommand) → IsCommandOf line d → d ≡ c)
one-command line = let h = has_command line (is_utf8 line) refl in (h.0, h.1, λ d i. same_command line h.0 d h.1 i)
