-- What commands answer on one plain tree, and the tree that they leave, where the first or the last member of a text counts
-- (RFC 8259, section 4, leaves repeats open).
use Rattle.std.specs.Prelude.{List, [], ◌∷◌, Option, Some, None, is_some}
use Rattle.sj_text_core.specs.Tree.{Tree}
use Rattle.sj_text_core.specs.Paths.{tree_at_by}
use Rattle.sj_text_core.specs.Repeats.{find_by, keep_by}
use Rattle.sj_text_core.specs.declared.repeats.Repeats.{Repeats}
use Rattle.sj_text_core.specs.declared.repeats.Repeats.TheVariants.{First}
use Rattle.sj_commands.specs.Commands.{Read, PlainCommand, read, write, bad}
use Rattle.sj_commands.specs.Commands as command
use Rattle.sj_run.specs.Replies.{PlainReply}
use Rattle.sj_run.specs.Replies as reply
use Rattle.sj_run.specs.Answers.{reply_to, edit}
use Rattle.sj_run.specs.declared.sessions.Form.{Form}
use Rattle.sj_run.specs.declared.sessions.Form.TheVariants as form

-- what a read answers at the tree found
abbrev pub reply_to_by : Repeats → Read → Tree → PlainReply
reply_to_by c (command.has k) t = reply.truth (is_some (find_by c k t))
reply_to_by c r t = reply_to r t

abbrev pub read_found_by : Repeats → Option Tree → Read → PlainReply
read_found_by c None r = reply.missing
read_found_by c (Some u) r = reply_to_by c r u

-- The choice and the tree after a command, and the reply. A write goes to the member of each key that counts alone. No other is left then, so that the first counts.
abbrev pub answer_by : Repeats × Tree → PlainCommand → (Repeats × Tree) × PlainReply
answer_by d (read p r) = (d, read_found_by d.0 (tree_at_by d.0 p d.1) r)
answer_by d (write p w) = ((First, (edit p w (keep_by d.0 d.1)).0), (edit p w (keep_by d.0 d.1)).1)
answer_by d bad = (d, reply.bad_command)

-- the replies to commands in order
abbrev pub replies_by : Repeats × Tree → List PlainCommand → List PlainReply
replies_by d [] = []
replies_by d (c ∷ cs) = (answer_by d c).1 ∷ replies_by (answer_by d c).0 cs

-- the last choice and tree
abbrev pub part_after : Repeats × Tree → List PlainCommand → Repeats × Tree
part_after d [] = d
part_after d (c ∷ cs) = part_after (answer_by d c).0 cs

-- the choice and the tree of a document of the form, as it is read by a choice
abbrev pub start_by : Repeats → Form → Tree → Repeats × Tree
start_by c form.Owned t = (First, keep_by c t)
start_by c form.Borrowed t = (First, keep_by c t)
start_by c form.Lazy t = (c, t)
