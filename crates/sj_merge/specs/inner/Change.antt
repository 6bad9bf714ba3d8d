-- What a merge patch says of a member that is wanted. Only private clauses cite it.
use Rattle.std.specs.Prelude.{◌≡◌, ℕ, true, false, List, Option, Some, None, if◌then◌else◌}
use Rattle.sj_text_core.specs.Tree.{Tree}
use Rattle.sj_text_core.specs.Equal.{passes, tree_eq}
use Rattle.sj_document.specs.Document.{document_tree}
use Rattle.sj_merge.specs.Merge.{is_null}
use Rattle.sj_merge.specs.MergeDiff.{merge_patch}
use Rattle.sj_merge.specs.declared.difference.Change.{Change}
use Rattle.sj_merge.specs.declared.difference.Change.TheVariants.{Stays, Impossible, Becomes}

-- the value of the patch's member, where the target hasn't the same
abbrev pub patch_value : Option Tree → Tree → Option Tree
patch_value old w = if is_null w then None else merge_patch old w

module _ {T : Type 0} (t : T → List ℕ) where
  abbrev pub IsChange : Option Tree → Tree → Change T → Type 0
  IsChange old w Stays = passes old (λ u. tree_eq u w) ≡ true
  IsChange old w Impossible = (passes old (λ u. tree_eq u w) ≡ false) × (patch_value old w ≡ None)
  IsChange old w (Becomes d) = (passes old (λ u. tree_eq u w) ≡ false) × (patch_value old w ≡ Some (document_tree t d))
