-- What a reading answers of bytes: what is kept of the tree that they spell, or why there is none.
use Rattle.std.specs.Prelude.{◌≡◌, ◌≢◌, ℕ, List}
use Rattle.sj_text_core.specs.Tree.{Tree, IsWithin}
use Rattle.sj_text_core.specs.Grammar.{Spells, IsReadable}
use Rattle.sj_text_core.specs.declared.error.ErrorKind.{ErrorKind}
use Rattle.sj_text_core.specs.declared.error.ErrorKind.TheVariants.{InvalidUtf8, OutOfMemory}

-- u is what is kept of a tree within the limit that the bytes spell
abbrev pub IsReadAs : (Tree → Tree) → List ℕ → Tree → Type 0
IsReadAs kept b u = (t : Tree) × Spells b t × IsWithin t × (u ≡ kept t)

-- u is what is kept of whatever tree they spell
abbrev pub IsOnlyReadAs : (Tree → Tree) → List ℕ → Tree → Type 0
IsOnlyReadAs kept b u = (t : Tree) → Spells b t → u ≡ kept t

-- they spell no other tree
abbrev pub SpellsOnly : List ℕ → Tree → Type 0
SpellsOnly b t = (u : Tree) → Spells b u → u ≡ t

-- they are not readable, where a reading of them is refused for another reason than these two
abbrev pub IsReadFault : List ℕ → ErrorKind → Type 0
IsReadFault b e = e ≢ InvalidUtf8 → e ≢ OutOfMemory → ¬ (IsReadable b)
