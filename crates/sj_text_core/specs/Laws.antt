-- What holds of the definitions themselves.
use Rattle.std.specs.Prelude.{◌≡◌, ◌↔◌, ◌⊎◌, ℕ, List, IsUtf8, option_map}
use Rattle.sj_text_core.specs.Tree.{Tree, IsProper, IsWithin}
use Rattle.sj_text_core.specs.Grammar.{Spells}
use Rattle.sj_text_core.specs.Find.{find}
use Rattle.sj_text_core.specs.Keep.{keep, IsSingle}
use Rattle.sj_text_core.specs.Repeats.{find_by, keep_by, SameBy}
use Rattle.sj_text_core.specs.declared.repeats.Repeats.{Repeats}
use Rattle.sj_text_core.specs.declared.repeats.Repeats.TheVariants.{First}
use Rattle.sj_text_core.specs.Paths.{Step, tree_at}
use Rattle.sj_text_core.specs.Print.{compact, pretty, recarry}
use Rattle.sj_text_core.specs.Same.{Same}
use Rattle.sj_text_core.specs.Nodes.{Mark, flat, tree_of, IsPreorder}

-- what is kept is kept, by either choice
abbrev pub KeepsOnce : Type 0
KeepsOnce = (c : Repeats) (t : Tree) → keep_by c (keep_by c t) ≡ keep_by c t

-- in what is kept no object has two members of one text, at any depth
abbrev pub KeepsSingle : Type 0
KeepsSingle = (c : Repeats) (t : Tree) → IsSingle (keep_by c t)

-- a tree without repeats is kept as it is
abbrev pub SingleIsKept : Type 0
SingleIsKept = (c : Repeats) (t : Tree) → IsSingle t → keep_by c t ≡ t

-- a list of nodes is the preorder of at most one tree
abbrev pub IsPreorderOfOne : Type 0
IsPreorderOfOne = (t u : Tree) → flat t ≡ flat u → t ≡ u

-- a preorder is the list of some tree's nodes
abbrev pub PreorderIsFlat : Type 0
PreorderIsFlat = (ns : List Mark) → IsPreorder ns ↔ ((t : Tree) × (ns ≡ flat t))

-- the tree of a preorder is the tree that was listed
abbrev pub TreeIsListed : Type 0
TreeIsListed = (t : Tree) → tree_of (flat t) ≡ t

-- a text spells at most one tree
abbrev pub SpellsOne : Type 0
SpellsOne = (b : List ℕ) (t u : Tree) → Spells b t → Spells b u → t ≡ u

-- what is spelled is a proper tree
abbrev pub SpellsProper : Type 0
SpellsProper = (b : List ℕ) (t : Tree) → Spells b t → IsProper t

-- what spells a tree is UTF-8
abbrev pub SpellsUtf8 : Type 0
SpellsUtf8 = (b : List ℕ) (t : Tree) → Spells b t → IsUtf8 b

-- a tree is the same as itself, also where its objects repeat keys
abbrev pub SameAsItself : Type 0
SameAsItself = (t : Tree) → Same t t

-- sameness goes both ways
abbrev pub SameBothWays : Type 0
SameBothWays = (t u : Tree) → Same t u → Same u t

-- what is the same as a same tree is the same
abbrev pub SameOnwards : Type 0
SameOnwards = (t u v : Tree) → Same t u → Same u v → Same t v

-- a tree is the same as its kept tree
abbrev pub SameKept : Type 0
SameKept = (t : Tree) → Same t (keep t)

-- a tree is the same with the carriers of its prints
abbrev pub SameRecarried : Type 0
SameRecarried = (t : Tree) → Same t (recarry t)

-- a tree within the limit is within it with the carriers of its prints
abbrev pub WithinRecarried : Type 0
WithinRecarried = (t : Tree) → IsWithin t → IsWithin (recarry t)

-- what stands at a path in a kept tree is what stands there, kept; or nothing does in both
abbrev pub FindsKept : Type 0
FindsKept = (p : List Step) (t : Tree) → tree_at p (keep t) ≡ option_map keep (tree_at p t)

-- the first member of a text in what is kept is the member that counts, kept; or there is none in both
abbrev pub FindsKeyKept : Type 0
FindsKeyKept = (c : Repeats) (k : List ℕ) (t : Tree) → find k (keep_by c t) ≡ option_map (keep_by c) (find_by c k t)

-- the compact text of a proper tree spells it, with the carriers of the print
abbrev pub CompactSpells : Type 0
CompactSpells = (t : Tree) → IsProper t → Spells (compact t) (recarry t)

-- the pretty text too, at each level
abbrev pub PrettySpells : Type 0
PrettySpells = (t : Tree) (level : ℕ) → IsProper t → Spells (pretty level t) (recarry t)

-- carriers are not printed
abbrev pub PrintedAlike : Type 0
PrintedAlike = (t u : Tree) → recarry t ≡ recarry u → (compact t ≡ compact u) × ((level : ℕ) → pretty level t ≡ pretty level u)

-- proper trees with one text, compact or pretty at a level, differ in carriers alone
abbrev pub PrintedApart : Type 0
PrintedApart = (t u : Tree) → IsProper t → IsProper u → (compact t ≡ compact u → recarry t ≡ recarry u) × ((level : ℕ) → pretty level t ≡ pretty level u → recarry t ≡ recarry u)

-- both texts of a proper tree within the limit are read back to a tree that is the same by either choice, and so is what is kept by that choice, where the first then counts (section 9)
abbrev pub ReadsBack : Type 0
ReadsBack = (c : Repeats) (t : Tree) (b : List ℕ) → IsProper t → IsWithin t → (b ≡ compact t) ⊎ (b ≡ pretty 0 t)
    → Spells b (recarry t) × IsWithin (recarry t) × SameBy c c t (recarry t) × SameBy c First t (keep_by c (recarry t))
