-- What holds of the merge patch by which one tree becomes another.
use Rattle.std.specs.Prelude.{◌≡◌, Some, None}
use Rattle.sj_text_core.specs.Tree.{Tree, obj, Members, no_members}
use Rattle.sj_text_core.specs.Keep.{IsSingle}
use Rattle.sj_text_core.specs.Same.{Same}
use Rattle.sj_merge.specs.Merge.{merged}
use Rattle.sj_merge.specs.MergeDiff.{merge_patch}

-- merged into the first, the patch leaves what is the same as the second
abbrev pub MergeDiffLeads : Type 0
MergeDiffLeads = (t u p : Tree) → IsSingle t → IsSingle u → merge_patch (Some t) u ≡ Some p → Same (merged (Some t) p) u

-- where there is no patch, none that repeats no key leaves what is the same as the second
abbrev pub MergeDiffNone : Type 0
MergeDiffNone = (t u : Tree) → IsSingle t → IsSingle u → merge_patch (Some t) u ≡ None → (p : Tree) → IsSingle p → Same (merged (Some t) p) u → ⊥

-- between objects that are the same the patch has no members
abbrev pub MergeDiffNothing : Type 0
MergeDiffNothing = (ms ns : Members) → IsSingle (obj ms) → IsSingle (obj ns) → Same (obj ms) (obj ns) → merge_patch (Some (obj ms)) (obj ns) ≡ Some (obj no_members)
