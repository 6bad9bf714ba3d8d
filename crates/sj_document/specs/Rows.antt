-- The types of what a document lends, as the logic names them.
use Rattle.std.specs.Prelude.{◌≡◌, Option, OnSome, ⊤}
use Rattle.std.specs.Borrow.{RattleType, MutBor, Fml, LendsSo, follows_so}
use mathlib.Core.Option as maybe
use Rattle.sj_text_core.specs.Tree.{Tree}
use Rattle.sj_text_core.specs.Paths.{Step, set_found}
use Rattle.sj_document.specs.Document.{document_tree}
use Rattle.std.specs.contracts.alloc.Global as heap
use Rattle.std.specs.contracts.impls.GlobalAllocator.TheImpl as alloc
use Rattle.std.specs.contracts.vec.Vec as vec
use Rattle.sj_object.specs.contracts.hasher.NotSoRandomState as state
use Rattle.sj_object.specs.contracts.hasher.NotSoRandomStateKeyHasher.TheImpl as hasher
use Rattle.sj_object.specs.Lends.{KeyMembers}
use Rattle.sj_object.specs.contracts.map.HashMap as map
use Rattle.sj_document.specs.contracts.value.Document.{the_row}

module _ (T : RattleType) (key : KeyMembers T.Denot) where
  abbrev pub document_row : RattleType
  document_row = the_row T (record { text_of = key.text_of }) (record { eq = key.eq })

  abbrev pub object_row : RattleType
  object_row = map.the_row T document_row state.the_row (record { text_of = key.text_of }) (record { eq = key.eq }) hasher.ghosts

  abbrev pub array_row : RattleType
  array_row = vec.the_row document_row heap.the_row alloc.ghosts

  -- d ends as `left` makes of the last value behind r and of its tree, where something is found, and else as it was
  abbrev pub LendsIfFound : (X : RattleType) → MutBor document_row.Denot → Option (MutBor X.Denot) → (X.Denot → Tree → Tree) → Fml
  LendsIfFound X d r left = LendsSo document_row X d r (λ n w. OnSome r (document_tree key.text_of n ≡ left w (document_tree key.text_of d.now))) (λ n. document_tree key.text_of n ≡ document_tree key.text_of d.now)

  -- d ends with the last value behind r in the place of what the step finds
  abbrev pub LendsFound : MutBor document_row.Denot → MutBor document_row.Denot → Step → Fml
  LendsFound d r s = follows_so document_row document_row d.ghost_name (maybe.some r.ghost_name) (λ w n. document_tree key.text_of n ≡ set_found s (document_tree key.text_of w) (document_tree key.text_of d.now)) (λ n. ⊤)
