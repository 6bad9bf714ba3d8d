-- What a write leaves of a lazy value, and what it answers.
use Rattle.std.specs.Prelude.{◌≡◌, ◌⊎◌, ℕ, List, Option, Some, None}
use Rattle.sj_text_core.specs.Tree.{Tree}
use Rattle.sj_text_core.specs.declared.error.AccessError.{AccessError}
use Rattle.sj_text_core.specs.declared.error.AccessError.TheVariants.{OutOfMemory}
use Rattle.sj_document.specs.Document.{document_tree, edit_fault, ChangesInPlace}
use Rattle.sj_document.specs.declared.value.Document.{Document}
use Rattle.sj_lazy.specs.declared.value.Lazy.{Lazy}
use Rattle.sj_lazy.specs.Value.{lazy_kept, owned}

-- as it was, where memory for making it owned was refused, and then P; else owned, with the tree u that is kept, and then Q
abbrev pub IsLeft : {P B T : Type 0} → (T → List ℕ) → Tree → Lazy P B T → Lazy P B T → Type 0 → Type 0 → Type 0
IsLeft t u old new P Q = ((owned t old ≡ None) × (new ≡ old) × P) ⊎ ((owned t new ≡ Some u) × Q)

-- where p gives what is kept of a part of a tape, b the tree of a lent document, and t the text of a key or a string
module _ {P B T : Type 0} (p : P → Tree) (b : B → Tree) (t : T → List ℕ) where
  -- it is owned, and its tree is f of the one that it kept
  abbrev pub IsOwnedAs : (Tree → Tree) → Lazy P B T → Lazy P B T → Type 0
  IsOwnedAs f old new = owned t new ≡ Some (f (lazy_kept p b t old))

  -- how a refused put leaves it, and why: where nothing is found to put into, it is wrong, else memory
  abbrev pub IsLeftByPut : {A : Type 0} → (Tree → Option A) → AccessError → Lazy P B T → Lazy P B T → AccessError → Type 0
  IsLeftByPut found wrong old new why = IsLeft t (lazy_kept p b t old) old new (why ≡ OutOfMemory) (why ≡ edit_fault wrong (found (lazy_kept p b t old)))

  -- how a refused removal leaves it, and why: memory is wanted for making it owned alone
  abbrev pub IsLeftByRemoval : {A : Type 0} → (Tree → Option A) → AccessError → Lazy P B T → Lazy P B T → AccessError → Type 0
  IsLeftByRemoval found wrong old new why = IsLeft t (lazy_kept p b t old) old new (why ≡ OutOfMemory) ((why ≡ wrong) × (found (lazy_kept p b t old) ≡ None))

  -- what is found in the tree that it kept is changed, and the change answers so; what it becomes is set there
  abbrev pub ChangesKept : {A : Type 0} → (Document T → Document T → A → Type 0) → (Tree → Option Tree → Type 0) → (Tree → Tree → Tree) → Lazy P B T → Lazy P B T → A → Type 0
  ChangesKept makes finds set old new answer = ChangesInPlace makes (λ v. finds (lazy_kept p b t old) (Some (document_tree t v))) (λ w. IsOwnedAs (set (document_tree t w)) old new) answer

  -- nothing is found there, the change comes back, and it is owned with the tree that it kept
  abbrev pub ComesBack : {C : Type 0} → C → (Tree → Option Tree → Type 0) → Lazy P B T → Lazy P B T → C → Type 0
  ComesBack change finds old new back = (back ≡ change) × finds (lazy_kept p b t old) None × (owned t new ≡ Some (lazy_kept p b t old))
