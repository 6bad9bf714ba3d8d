-- A document compared with what holds values of another type.
use Rattle.std.specs.Prelude.{◌≡◌, ℕ, List, [], ◌∷◌, Option, Some, None, MatchOption, if◌then◌else◌, bytes_eq}
use Rattle.sj_object.specs.Entries.{Entry}
use Rattle.sj_object.specs.Edits.{lookup}
use Rattle.sj_document.specs.declared.value.Document.{Document, out-Document}
use Rattle.sj_document.specs.declared.value.Document.TheOpen.{Document-F}

module _ {T : Type 0} where
  abbrev pub document_items_in : Document-F T (Document T) → Option (List (Document T))
  document_items_in (Document-F.Static s) = None
  document_items_in (Document-F.String s) = None
  document_items_in (Document-F.Array v) = Some v.value.items
  document_items_in (Document-F.Object m) = None

  -- the items of an array
  abbrev pub document_items : Document T → Option (List (Document T))
  document_items d = document_items_in (out-Document T d)

  abbrev pub document_members_in : Document-F T (Document T) → Option (List (Entry T (Document T)))
  document_members_in (Document-F.Static s) = None
  document_members_in (Document-F.String s) = None
  document_members_in (Document-F.Array v) = None
  document_members_in (Document-F.Object m) = Some m.value.entries

  -- the members of an object
  abbrev pub document_members : Document T → Option (List (Entry T (Document T)))
  document_members d = document_members_in (out-Document T d)

-- the value of the first entry whose key has the text
abbrev pub value_of_text : {L X : Type 0} → (L → List ℕ) → List ℕ → List (L × X) → Option X
value_of_text text k [] = None
value_of_text text k (p ∷ ps) = if bytes_eq k (text p.0) then Some p.1 else value_of_text text k ps

module _ {D X : Type 0} (R : D → X → Type 0) where
  -- as many, item by item
  abbrev pub SameEach : List D → List X → Type 0
  SameEach [] xs = xs ≡ []
  SameEach (d ∷ ds) [] = ⊥
  SameEach (d ∷ ds) (x ∷ xs) = R d x × SameEach ds xs

  abbrev pub SameSlice : Option (List D) → List X → Type 0
  SameSlice None xs = ⊥
  SameSlice (Some ds) xs = SameEach ds xs

  -- both absent, or both there and the same
  abbrev pub SameIn : Option D → Option X → Type 0
  SameIn None found = found ≡ None
  SameIn (Some d) found = MatchOption found ⊥ (λ x. R d x)

  -- find gives what is found at a text: each text is absent from both, or has the same in both
  abbrev pub SameTexts : {L : Type 0} → (L → List ℕ) → (List ℕ → Option D) → List (L × X) → Type 0
  SameTexts text find ps = (k : List ℕ) → SameIn (find k) (value_of_text text k ps)

  -- the entries have the same as the map
  abbrev pub SameMap : {K L : Type 0} → (L → List ℕ) → Option (List (Entry K D)) → List (L × X) → Type 0
  SameMap text None ps = ⊥
  SameMap text (Some es) ps = SameTexts text (λ k. lookup k es) ps
