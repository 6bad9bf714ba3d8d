-- What private clauses alone cite beside Changes.
use Rattle.std.specs.Prelude.{◌≡◌, ℕ, List, Option, None, Result, IfOk, IfErr, IsOk, IsSome, OnOk, OnErr, ⊤}
use Rattle.sj_text_core.specs.Tree.{Tree}
use Rattle.sj_text_core.specs.Find.{find}
use Rattle.sj_text_core.specs.Reads.{as_items, as_members}
use Rattle.sj_text_core.specs.declared.error.AccessError.{AccessError}
use Rattle.sj_text_core.specs.declared.error.AccessError.TheVariants.{NotAnObject, NotAnArray}
use Rattle.sj_text_core.specs.declared.refused.Refused.{Refused}
use Rattle.sj_document.specs.declared.value.Document.{Document}
use Rattle.sj_document.specs.Document.{document_tree, edit_fault, with_member, without_member, with_item, without_last, last_item, Means}

-- What an edit of one container answers and leaves of its tree; a refused one leaves it.
module _ {T : Type 0} (t : T → List ℕ) where
  pub record Inserts (k : T) (u : Document T) (before after : Tree) (r : Result (Option (Document T)) (Refused AccessError (Document T))) : Type 0 where
    pub answer : IfOk r (Means t (find (t k) before))
    pub made : OnOk r (after ≡ with_member (t k) (document_tree t u) before)
    pub refused : OnErr r (after ≡ before)
    pub returned : IfErr r (λ e. e.value ≡ u)
    pub kind : IfErr r (λ e. e.why ≡ edit_fault NotAnObject (as_members before))
    pub object : OnOk r (IsSome (as_members before))
    pub succeeds : IsSome (find (t k) before) → IsOk r

  pub record Removes (k : List ℕ) (before after : Tree) (r : Result (Option (Document T)) AccessError) : Type 0 where
    pub answer : IfOk r (Means t (find k before))
    pub made : after ≡ without_member k before
    pub refused : OnErr r (after ≡ before)
    pub kind : IfErr r (λ e. (e ≡ NotAnObject) × (as_members before ≡ None))
    pub object : OnOk r (IsSome (as_members before))

  pub record Pushes (u : Document T) (before after : Tree) (r : Result ⊤ (Refused AccessError (Document T))) : Type 0 where
    pub made : OnOk r (after ≡ with_item (document_tree t u) before)
    pub refused : OnErr r (after ≡ before)
    pub returned : IfErr r (λ e. e.value ≡ u)
    pub kind : IfErr r (λ e. e.why ≡ edit_fault NotAnArray (as_items before))
    pub array : OnOk r (IsSome (as_items before))

  pub record Pops (before after : Tree) (r : Result (Option (Document T)) AccessError) : Type 0 where
    pub answer : IfOk r (Means t (last_item before))
    pub made : after ≡ without_last before
    pub refused : OnErr r (after ≡ before)
    pub kind : IfErr r (λ e. (e ≡ NotAnArray) × (as_items before ≡ None))
    pub array : OnOk r (IsSome (as_items before))
