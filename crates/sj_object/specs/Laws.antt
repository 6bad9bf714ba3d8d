-- What holds of the words of maps.
use Rattle.std.specs.Prelude.{◌≡◌, ◌≤◌, ℕ, List, option_map}
use Rattle.sj_text_core.specs.Tree.{Tree, obj}
use Rattle.sj_text_core.specs.Find.{find_member}
use Rattle.sj_text_core.specs.Edits as members
use Rattle.sj_text_core.specs.Keep.{IsKept}
use Rattle.sj_object.specs.Entries.{Entry}
use Rattle.sj_object.specs.HashMap.{Contents}
use Rattle.sj_object.specs.Members.{entry_members}
use Rattle.sj_object.specs.Edits.{lookup, put_entry, cut_entry}
use Rattle.sj_object.specs.Steps.{chain, walk}

-- a text is found among entries where it is found among their members
abbrev pub LooksUpMembers : (K V : Type 0) → Type 0
LooksUpMembers K V = (tree : V → Tree) (k : List ℕ) (es : List (Entry K V)) → option_map tree (lookup k es) ≡ find_member k (entry_members tree es)

-- a put leaves of entries what it leaves of their members
abbrev pub PutsMembers : (K V : Type 0) → Type 0
PutsMembers K V = (tree : V → Tree) (q : K × List ℕ) (v : V) (es : List (Entry K V)) → entry_members tree (put_entry q v es) ≡ members.put q.1 (tree v) (entry_members tree es)

-- a cut leaves of entries what it leaves of their members
abbrev pub CutsMembers : (K V : Type 0) → Type 0
CutsMembers K V = (tree : V → Tree) (k : List ℕ) (es : List (Entry K V)) → entry_members tree (cut_entry k es) ≡ members.cut k (entry_members tree es)

-- the object of a map whose values are kept is kept
abbrev pub KeepsObjects : (K V S : Type 0) → Type 0
KeepsObjects K V S = (tree : V → Tree) → ((v : V) → IsKept (tree v)) → (m : Contents K V S) → IsKept (obj (entry_members tree m.entries))

-- a lookup in buckets compares at most the entries of the text's chain
abbrev pub WalksChain : (K V : Type 0) → Type 0
WalksChain K V = (h : List ℕ → ℕ) (n : ℕ) (k : List ℕ) (es : List (Entry K V)) → walk h n k es ≤ chain h n k es
