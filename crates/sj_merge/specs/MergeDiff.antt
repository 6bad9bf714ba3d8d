-- The merge patch (RFC 7396) by which one tree becomes another.
use Rattle.std.specs.Prelude.{Option, Some, None, is_some, option_map, option_and_then, if◌then◌else◌}
use Rattle.sj_text_core.specs.Tree.{Tree, null, boolean, int, text, list, obj, Members, no_members, member}
use Rattle.sj_text_core.specs.Find.{find_member}
use Rattle.sj_text_core.specs.Equal.{passes, tree_eq}
use Rattle.sj_merge.specs.Merge.{is_null, target_members}

-- a null for each member of the first whose text the second have not, and behind these the others
abbrev pub removals : Members → Members → Members → Members
removals no_members ns others = others
removals (member k t ms) ns others = if is_some (find_member k ns) then removals ms ns others else member k null (removals ms ns others)

abbrev mutual
  -- a target that is not there is None; the patch is None where there is none
  pub merge_patch : Option Tree → Tree → Option Tree
  merge_patch target (obj ns) = option_map (λ ps. obj (removals (target_members target) ns ps)) (patch_members (target_members target) ns)
  merge_patch target null = Some null
  merge_patch target (boolean b) = Some (boolean b)
  merge_patch target (int n c) = Some (int n c)
  merge_patch target (text s) = Some (text s)
  merge_patch target (list is) = Some (list is)

  -- a member for each of the second that the first have not, or not as the same; a null that they have not is none that a patch could put there
  pub patch_members : Members → Members → Option Members
  patch_members ms no_members = Some no_members
  patch_members ms (member k w ns) =
      if passes (find_member k ms) (λ u. tree_eq u w) then patch_members ms ns
      else if is_null w then None
      else option_and_then (λ p. option_map (member k p) (patch_members ms ns)) (merge_patch (find_member k ms) w)
