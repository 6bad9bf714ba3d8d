-- What a write leaves of a lazy value.
use Rattle.std.proofs.Common.{◌≡◌, ◌⊎◌, inl, inr, List, Some, Result, Ok, Err, IfOk, OnOk, OnErr, refl, ap, ◌∙◌}
use Rattle.std.specs.Borrow.{Bor}
use Rattle.std.specs.Cow.{cow_str_bytes}
use Rattle.std.specs.declared.alloc.AllocError.{AllocError}
use Rattle.sj_text_core.specs.Tree.{Tree}
use Rattle.sj_text_core.specs.Paths.{Step}
use Rattle.sj_text_core.specs.Repeats.{keep_by}
use Rattle.sj_text_core.specs.declared.repeats.Repeats.TheVariants.{First}
use Rattle.sj_tape.specs.declared.value.Value.{Value as TapeValue}
use Rattle.sj_document.specs.declared.value.Document.{Document}
use Rattle.sj_lazy.specs.Value.{Text, owned, value_kept, value_choice, value_tree, value_part}
use Rattle.sj_lazy.specs.declared.value.Lazy.{Lazy}
use Rattle.sj_lazy.specs.declared.value.Lazy.TheVariants.{Tape, Value}
use Rattle.sj_lazy.specs.declared.value.Shared.TheVariants.{Borrowed, Owned}
use Rattle.sj_lazy.proofs.Steps.{shared_kept, some_is}
use Rattle.sj_run.specs.Answers.{edit}
use Rattle.sj_run.specs.inner.Changed.{changed_meant}
use Rattle.sj_commands.specs.Commands.{Write, write}
use Rattle.sj_run.specs.Repeats.{answer_by}
use Rattle.sj_run.specs.Run.{Leaves}
use Rattle.sj_run.specs.declared.change.Changed.{Changed}

abbrev LazyValue : Type 0
LazyValue = Lazy TapeValue (Bor (Document Text)) Text

-- what is kept, by the value's own choice
kept_by : (v : LazyValue) → value_kept v ≡ keep_by (value_choice v) (value_tree v)
kept_by (Tape x) = refl
kept_by (Value c) = shared_kept c

-- an owned document has no repeats to choose from
owned_part : (v : LazyValue) (u : Tree) → owned cow_str_bytes v ≡ Some u → value_part v ≡ (First, u)
owned_part (Tape x) u e = cc
owned_part (Value (Borrowed x)) u e = cc
owned_part (Value (Owned d)) u e = ap (λ (t : Tree). (First, t)) (some_is _ u e)

module _ (v n : LazyValue) (p : List Step) (w : Write) where
  -- the write x, which means the same
  pub lazy_reply : (x : Write) → x ≡ w → (r : Result (Changed Text) AllocError) → IfOk r (λ c. changed_meant cow_str_bytes c ≡ (edit p x (value_kept v)).1)
      → IfOk r (λ c. changed_meant cow_str_bytes c ≡ (answer_by (value_part v) (write p w)).1)
  lazy_reply x same (Ok c) e = e ∙ ap (λ (y : Write). (edit p y (value_kept v)).1) same ∙ ap (λ t. (edit p w t).1) (kept_by v)
  lazy_reply x same (Err c) e = e

  pub lazy_after : (x : Write) → x ≡ w → (r : Result (Changed Text) AllocError) → OnOk r (owned cow_str_bytes n ≡ Some (edit p x (value_kept v)).0)
      → OnOk r (value_part n ≡ (answer_by (value_part v) (write p w)).0)
  lazy_after x same (Ok c) e =
      owned_part n _ e ∙ ap (λ (y : Write). (First, (edit p y (value_kept v)).0)) same ∙ ap (λ (t : Tree). (First, (edit p w t).0)) (kept_by v)
  lazy_after x same (Err c) e = e

  lazy_left : (n ≡ v) ⊎ (owned cow_str_bytes n ≡ Some (value_kept v)) → Leaves (value_part v) (write p w) (value_part n)
  lazy_left (inl e) = inl (ap value_part e)
  lazy_left (inr e) = inr (inl (owned_part n _ e ∙ ap (λ (t : Tree). (First, t)) (kept_by v)))

  pub lazy_refused : (r : Result (Changed Text) AllocError) → OnErr r ((n ≡ v) ⊎ (owned cow_str_bytes n ≡ Some (value_kept v))) → OnErr r (Leaves (value_part v) (write p w) (value_part n))
  lazy_refused (Ok x) e = e
  lazy_refused (Err x) e = lazy_left e
