-- What holds of canonical forms.
use Rattle.std.specs.Prelude.{◌≡◌, ◌↔◌, ℕ, List, length, IsUtf8}
use Rattle.sj_text_core.specs.Grammar.{Spells}
use Rattle.sj_text_core.specs.Keep.{IsSingle}
use Rattle.sj_text_core.specs.Print.{compact, recarry}
use Rattle.sj_text_core.specs.Repeats.{SameBy}
use Rattle.sj_text_core.specs.Same.{Same}
use Rattle.sj_text_core.specs.Tree.{Tree, IsProper}
use Rattle.sj_text_core.specs.declared.repeats.Repeats.{Repeats}
use Rattle.sj_canonical.specs.Canonical.{units, canonical, canonical_by, IsOrdered}

-- proper trees without repeats are the same exactly where their canonical prints are equal
abbrev pub SameIsEqualPrint : Type 0
SameIsEqualPrint = (t u : Tree) → IsProper t → IsProper u → IsSingle t → IsSingle u → Same t u ↔ (compact (canonical t) ≡ compact (canonical u))

-- whichever member of a text counts on either side, proper trees are the same exactly where their canonical prints are equal
abbrev pub SameByIsEqualPrint : Type 0
SameByIsEqualPrint = (c d : Repeats) (t u : Tree) → IsProper t → IsProper u → SameBy c d t u ↔ (compact (canonical_by c t) ≡ compact (canonical_by d u))

-- a tree is the same as its canonical form, also where its objects repeat texts
abbrev pub SameCanonical : Type 0
SameCanonical = (t : Tree) → Same t (canonical t)

-- the canonical form is in order, and a tree in order is its own
abbrev pub IsOrderedOnce : Type 0
IsOrderedOnce = (t : Tree) → IsOrdered (canonical t) × (IsOrdered t → canonical t ≡ t)

-- the canonical print is as long as the compact one, and of a proper tree it spells the canonical form
abbrev pub CanonicalSpells : Type 0
CanonicalSpells = (t : Tree) → (length (compact (canonical t)) ≡ length (compact t)) × (IsProper t → Spells (compact (canonical t)) (recarry (canonical t)))

-- texts with the same units are one
abbrev pub UnitsOfOne : Type 0
UnitsOfOne = (k l : List ℕ) → IsUtf8 k → IsUtf8 l → units k ≡ units l → k ≡ l
