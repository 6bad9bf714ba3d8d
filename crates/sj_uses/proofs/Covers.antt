-- One member of the upper document put over the lower one.
use Rattle.std.proofs.Common.{◌≡◌, ℕ, List, Some, None, unwrap_or, sym, ap, ◌∙◌}
use Rattle.sj_text_core.specs.Tree.{Tree, null, Members, member}
use Rattle.sj_text_core.specs.Find.{find_member}
use Rattle.sj_text_core.specs.Edits.{put}
use Rattle.sj_uses.specs.Merge.{merged, merged_members, found_or}

pub over_found : (k : List ℕ) (ms rest : Members) (u v w : Tree) → find_member k ms ≡ Some v → w ≡ merged v u → merged_members (put k w ms) rest ≡ merged_members ms (member k u rest)
over_found k ms rest u v w f e = ap (λ x. merged_members (put k x ms) rest) (e ∙ sym (ap (λ o. found_or o u (merged (unwrap_or o null) u)) f))

pub over_absent : (k : List ℕ) (ms rest : Members) (u : Tree) → find_member k ms ≡ None → merged_members (put k u ms) rest ≡ merged_members ms (member k u rest)
over_absent k ms rest u f = ap (λ x. merged_members (put k x ms) rest) (sym (ap (λ o. found_or o u (merged (unwrap_or o null) u)) f))
