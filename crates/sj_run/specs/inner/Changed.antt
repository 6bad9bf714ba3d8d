-- What a write at a path answers and leaves. Only private clauses cite it.
use Rattle.std.specs.Prelude.{◌≡◌, ℕ, List, Result}
use Rattle.std.specs.Result.{MatchResult}
use Rattle.std.specs.declared.alloc.AllocError.{AllocError}
use Rattle.sj_text_core.specs.Tree.{Tree}
use Rattle.sj_text_core.specs.Paths.{Step}
use Rattle.sj_document.specs.Document.{document_tree}
use Rattle.sj_commands.specs.Commands.{Write}
use Rattle.sj_run.specs.Replies.{PlainReply, old, nothing, done, missing, not_an_object, not_an_array}
use Rattle.sj_run.specs.Answers.{edit}
use Rattle.sj_run.specs.declared.change.Changed.{Changed}
use Rattle.sj_run.specs.declared.change.Changed.TheVariants as changed

module _ {T : Type 0} (t : T → List ℕ) where
  abbrev pub changed_meant : Changed T → PlainReply
  changed_meant (changed.Old v) = old (document_tree t v)
  changed_meant changed.Nothing = nothing
  changed_meant changed.Done = done
  changed_meant changed.Missing = missing
  changed_meant changed.NotAnObject = not_an_object
  changed_meant changed.NotAnArray = not_an_array

  -- the tree that is left and the reply are those of the write at the path; refused for want of memory, the tree is as it was
  abbrev pub Edits : List Step → Write → Tree → Tree → Result (Changed T) AllocError → Type 0
  Edits p w before after r = MatchResult r (λ reply. (after, changed_meant reply) ≡ edit p w before) (λ e. after ≡ before)
