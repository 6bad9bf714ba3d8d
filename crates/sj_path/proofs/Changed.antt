-- What an edit of what a pointer finds is in the whole tree.
use Rattle.std.proofs.Common.{◌≡◌, ℕ, List, Some, sym, ap, ◌∙◌}
use Rattle.sj_text_core.specs.Tree.{Tree}
use Rattle.sj_text_core.proofs.Writes.{set_at-same}
use Rattle.sj_pointer.specs.Pointed.{path_of, pointed, set_pointed}
use Rattle.sj_path.specs.Changes.{changed_by, changed_at}

module _ (ks : List (List ℕ)) (v w old new : Tree) (e : pointed ks old ≡ Some v) (q : new ≡ set_pointed ks w old) where
  -- what was changed there by f
  pub made_there : (f : Tree → Tree) → w ≡ f v → new ≡ changed_at ks f old
  made_there f h = q ∙ ap (λ x. set_pointed ks x old) h ∙ sym (ap (λ o. changed_by o ks f old) e)

  -- what was found, put back
  pub put_back : w ≡ v → new ≡ old
  put_back h = q ∙ ap (λ x. set_pointed ks x old) h ∙ set_at-same (path_of ks) v old e
