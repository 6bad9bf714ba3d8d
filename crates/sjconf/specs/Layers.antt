-- Files over files.
use Rattle.std.specs.Prelude.{◌≡◌, List, [], ◌∷◌, Some, ⊤, fold}
use Rattle.sj_text_core.specs.Tree.{Tree, null}
use Rattle.sj_text_core.specs.Keep.{keep}
use Rattle.sj_text_core.specs.Readings.{IsReadAs}
use Rattle.sj_merge.specs.Merge.{merged}
use Rattle.sjconf.specs.declared.input.Layer.{Layer}

-- the tree that the text of each file spells, in order, of which the first member of each key counts
abbrev pub AreRead : List Layer → List Tree → Type 0
AreRead [] [] = ⊤
AreRead [] (t ∷ ts) = ⊥
AreRead (l ∷ ls) [] = ⊥
AreRead (l ∷ ls) (t ∷ ts) = IsReadAs keep l.text.items t × AreRead ls ts

-- each tree merged over those before it (RFC 7396); the first as it is
abbrev pub layered : List Tree → Tree
layered [] = null
layered (t ∷ ts) = fold (λ u v. merged (Some u) v) t ts
