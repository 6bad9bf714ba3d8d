-- What an output holds, and what a call appends to it.
use Rattle.std.specs.Prelude.{ℕ, List, ◌++◌, Option, IsUtf8}
use Rattle.sj_print.specs.Layouts.{IsLayout}
use Rattle.sj_print.specs.declared.layout.Layout.{Layout}

module _ {S O : Type 0} (holds : S → O → List ℕ → Type 0) where
  -- the bytes were put behind what the output holds
  abbrev pub Appends : O → O → List ℕ → Type 0
  Appends old new part = (start : S) (b : List ℕ) → holds start old b → holds start new (b ++ part)

  -- it holds a text
  abbrev pub HoldsText : S → O → List ℕ → Type 0
  HoldsText start o b = IsUtf8 b × holds start o b

  -- the text was put behind the text that the output holds
  abbrev pub AppendsText : O → O → List ℕ → Type 0
  AppendsText old new part = (start : S) (b : List ℕ) → HoldsText start old b → HoldsText start new (b ++ part)

  -- so in the layout
  abbrev pub Lays : O → O → Layout → (Option ℕ → List ℕ) → Type 0
  Lays old new layout part = (s : Option ℕ) → IsLayout layout s → AppendsText old new (part s)
