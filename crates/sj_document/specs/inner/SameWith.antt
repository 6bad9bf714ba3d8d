-- What private clauses alone cite beside SameWith.
use Rattle.std.specs.Prelude.{ℕ, List, [], ◌∷◌, Option, MatchOption, ⊤, ◌≡◌, true, is_some}
use Rattle.sj_text_core.specs.Keep.{is_seen}
use Rattle.sj_document.specs.SameWith.{value_of_text}

-- find gives what is found at a text, and R compares it with a value of the map, whose keys have texts
module _ {D X L : Type 0} (R : D → X → Type 0) (text : L → List ℕ) (find : List ℕ → Option D) where
  -- at each key's text something is found, and the same
  abbrev pub EachFound : List (L × X) → Type 0
  EachFound [] = ⊤
  EachFound (p ∷ ps) = MatchOption (find (text p.0)) ⊥ (λ d. R d p.1) × EachFound ps

-- each of the texts is that of a key of the map
abbrev pub HasKeys : {L X : Type 0} → (L → List ℕ) → List (List ℕ) → List (L × X) → Type 0
HasKeys text ks ps = (k : List ℕ) → is_seen k ks ≡ true → is_some (value_of_text text k ps) ≡ true
