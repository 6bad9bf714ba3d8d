-- Writes at a document, whose objects have no key twice.
use Rattle.std.proofs.Common.{◌≡◌, ℕ, List, Option, Some, None, IfOk, OnOk, OnErr, Result, Ok, Err, inl, sym, ap, ◌∙◌}
use Rattle.std.specs.declared.alloc.AllocError.{AllocError}
use Rattle.sj_text_core.specs.Tree.{Tree, null, boolean, int, text, list, obj}
use Rattle.sj_text_core.specs.Edits.{last}
use Rattle.sj_text_core.specs.Find.{find_member}
use Rattle.sj_text_core.specs.Keep.{keep}
use Rattle.sj_text_core.specs.Paths.{Step}
use Rattle.sj_document.specs.Document.{document_tree}
use Rattle.sj_document.specs.declared.value.Document.{Document}
use Rattle.sj_document.proofs.Kept.{tree_kept}
use Rattle.sj_run.specs.Answers.{edit, edit_found, changed, old_or_nothing, IsLong}
use Rattle.sj_run.specs.inner.Changed.{changed_meant, Edits}
use Rattle.sj_commands.specs.Commands.{Write, write, insert, remove, push, pop, put}
use Rattle.sj_text_core.specs.declared.repeats.Repeats.{Repeats}
use Rattle.sj_text_core.specs.declared.repeats.Repeats.TheVariants.{First}
use Rattle.sj_run.specs.Replies.{PlainReply}
use Rattle.sj_run.specs.Repeats.{answer_by}
use Rattle.sj_run.specs.Run.{Leaves}
use Rattle.sj_run.specs.declared.change.Changed.{Changed}

module _ {T : Type 0} (t : T → List ℕ) (p : List Step) (w : Write) (v : Document T) (u : Tree) where
  kept : edit p w (document_tree t v) ≡ edit p w (keep (document_tree t v))
  kept = ap (edit p w) (sym (tree_kept t v))

  pub kept_reply : (r : Result (Changed T) AllocError) → Edits t p w (document_tree t v) u r → IfOk r (λ x. changed_meant t x ≡ (answer_by (First, document_tree t v) (write p w)).1)
  kept_reply (Ok x) h = ap (λ q. q.1) (h ∙ kept)
  kept_reply (Err x) h = tt

  pub kept_after : (r : Result (Changed T) AllocError) → Edits t p w (document_tree t v) u r → OnOk r (◌≡◌ {A = Repeats × Tree} (First, u) (answer_by (First, document_tree t v) (write p w)).0)
  kept_after (Ok x) h = ap (λ (q : Tree × PlainReply). (First, q.0)) (h ∙ kept)
  kept_after (Err x) h = tt

  pub kept_refused : (r : Result (Changed T) AllocError) → Edits t p w (document_tree t v) u r → OnErr r (Leaves (First, document_tree t v) (write p w) (First, u))
  kept_refused (Ok x) h = tt
  kept_refused (Err x) h = inl (ap (λ (s : Tree). (First, s)) h)

-- what a write answers is no print
short_old : (o : Option Tree) → IsLong (old_or_nothing o) → ⊥
short_old None h = h
short_old (Some t) h = h

short_changed : (w : Write) (t : Tree) → IsLong (changed w t).1 → ⊥
short_changed (insert k v) null h = h
short_changed (insert k v) (boolean b) h = h
short_changed (insert k v) (int n c) h = h
short_changed (insert k v) (text s) h = h
short_changed (insert k v) (list is) h = h
short_changed (insert k v) (obj ms) h = short_old (find_member k ms) h
short_changed (remove k) null h = h
short_changed (remove k) (boolean b) h = h
short_changed (remove k) (int n c) h = h
short_changed (remove k) (text s) h = h
short_changed (remove k) (list is) h = h
short_changed (remove k) (obj ms) h = short_old (find_member k ms) h
short_changed (push v) null h = h
short_changed (push v) (boolean b) h = h
short_changed (push v) (int n c) h = h
short_changed (push v) (text s) h = h
short_changed (push v) (list is) h = h
short_changed (push v) (obj ms) h = h
short_changed pop null h = h
short_changed pop (boolean b) h = h
short_changed pop (int n c) h = h
short_changed pop (text s) h = h
short_changed pop (list is) h = short_old (last is) h
short_changed pop (obj ms) h = h
short_changed (put v) t h = h

short_found : (o : Option Tree) (p : List Step) (w : Write) (t : Tree) → IsLong (edit_found o p w t).1 → ⊥
short_found None p w t h = h
short_found (Some u) p w t h = short_changed w u h

pub short_edit : (p : List Step) (w : Write) (t : Tree) → IsLong (edit p w t).1 → ⊥
short_edit p w t h = short_found _ p w t h
