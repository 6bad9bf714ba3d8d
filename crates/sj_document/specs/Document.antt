-- The tree that a document means, where t gives the text of a key or a string.
use Rattle.std.specs.Prelude.{◌≡◌, ℕ, Bool, true, ◌&&◌, List, [], ◌∷◌, Option, Some, None, option_map}
use Rattle.std.specs.List.{list_all}
use Rattle.sj_text_core.specs.Tree.{Tree, text, list, obj, items_from, Members}
use Rattle.sj_text_core.specs.Scalars.{static_tree}
use Rattle.sj_text_core.specs.Edits.{put, cut, push, front, last}
use Rattle.sj_object.specs.Members.{entry_members}
use Rattle.sj_text_core.specs.declared.error.AccessError.{AccessError}
use Rattle.sj_text_core.specs.declared.error.AccessError.TheVariants.{OutOfMemory}
use Rattle.sj_document.specs.declared.value.Document.{Document, fold-Document}
use Rattle.sj_document.specs.declared.value.Document.TheOpen.{Document-F}

module _ {T : Type 0} (t : T → List ℕ) where
  -- one level, whose parts are seen as their trees
  abbrev pub document_level : Document-F T Tree → Tree
  document_level (Document-F.Static s) = static_tree s
  document_level (Document-F.String s) = text (t s)
  document_level (Document-F.Array v) = list (items_from v.value.items)
  document_level (Document-F.Object m) = obj (entry_members (λ u. u) m.value.entries)

  abbrev pub document_tree : Document T → Tree
  document_tree = fold-Document T Tree document_level

module _ {T : Type 0} (is_made : T → Bool) where
  -- one level, whose parts are seen as whether they pass
  abbrev pub level_passes : Document-F T Bool → Bool
  level_passes (Document-F.Static s) = true
  level_passes (Document-F.String s) = is_made s
  level_passes (Document-F.Array v) = list_all (λ b. b) v.value.items
  level_passes (Document-F.Object m) = list_all (λ e. is_made e.0.0 && e.1) m.value.entries

  -- whether every text and every key passes the test
  abbrev pub all_texts : Document T → Bool
  all_texts = fold-Document T Bool level_passes

-- an object with the value at the text; anything else stays
abbrev pub with_member : List ℕ → Tree → Tree → Tree
with_member k u (obj ms) = obj (put k u ms)
with_member k u t = t

-- an object without the member of the text; anything else stays
abbrev pub without_member : List ℕ → Tree → Tree
without_member k (obj ms) = obj (cut k ms)
without_member k t = t

-- an array with u behind its items; anything else stays
abbrev pub with_item : Tree → Tree → Tree
with_item u (list is) = list (push u is)
with_item u t = t

-- an array without its last item; anything else stays
abbrev pub without_last : Tree → Tree
without_last (list is) = list (front is)
without_last t = t

-- the last item of an array
abbrev pub last_item : Tree → Option Tree
last_item (list is) = last is
last_item t = None

-- a value that is found is changed, and the change answers so; what it becomes is written
abbrev pub ChangesInPlace : {V A : Type 0} → (V → V → A → Type 0) → (V → Type 0) → (V → Type 0) → A → Type 0
ChangesInPlace {V} makes finds writes answer = (v : V) × (w : V) × finds v × makes v w answer × writes w

-- what an edit answers and leaves
module _ {T : Type 0} (t : T → List ℕ) where
  -- the document means that tree; where there is none, there is none
  abbrev pub Means : Option Tree → Option (Document T) → Type 0
  Means o found = option_map (document_tree t) found ≡ o

  -- the tree is f of the one that was
  abbrev pub IsEdited : (Tree → Tree) → Document T → Document T → Type 0
  IsEdited f old new = document_tree t new ≡ f (document_tree t old)

  -- the tree is the one that was
  abbrev pub IsAsItWas : Document T → Document T → Type 0
  IsAsItWas old new = document_tree t new ≡ document_tree t old

  -- what is found in the tree is changed, and the change answers so; what it becomes is set there
  abbrev pub ChangesFound : {A : Type 0} → (Document T → Document T → A → Type 0) → (Tree → Option Tree) → (Tree → Tree → Tree) → Document T → Document T → A → Type 0
  ChangesFound makes found set old new answer = ChangesInPlace makes (λ v. found (document_tree t old) ≡ Some (document_tree t v)) (λ w. IsEdited (set (document_tree t w)) old new) answer

-- why an edit is refused: the target is of another kind, else memory
abbrev pub edit_fault : {A : Type 0} → AccessError → Option A → AccessError
edit_fault wrong None = wrong
edit_fault wrong (Some x) = OutOfMemory

-- members with pairs put into them in turn, where t gives the text of a key and v the tree of a value
abbrev pub put_pairs : {K V : Type 0} → (K → List ℕ) → (V → Tree) → Members → List (K × V) → Members
put_pairs t v ms [] = ms
put_pairs t v ms (p ∷ ps) = put_pairs t v (put (t p.0) (v p.1) ms) ps
