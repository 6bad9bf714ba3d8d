-- A replacement is a removal and then an addition.
use Rattle.std.proofs.Common.{◌≡◌, ◌≢◌, ℕ, suc, List, [], ◌∷◌, Option, Some, None, Ok, Err, refl, ap, ◌∙◌}
use Rattle.sj_text_core.specs.Tree.{Tree}
use Rattle.sj_pointer.specs.Pointed.{pointed, set_pointed}
use Rattle.sj_patch.specs.Patch.{add, remove, replace, or_missing, onwards, next, patched_from}
use Rattle.sj_patch.specs.Laws.{SameOutcome}
use Rattle.sj_patch.proofs.Outcomes.{outcome-as}
use Rattle.sj_patch.proofs.Renewing.{renews-at, not-removed}
use Rattle.sj_text_core.specs.declared.patch_fault.OperationFault.TheVariants.{Missing}

module _ (k : List ℕ) (ks : List (List ℕ)) (v t : Tree) where
  replaced_by : (n : ℕ) (o : Option Tree) → pointed (k ∷ ks) t ≡ o → SameOutcome (patched_from n (replace (k ∷ ks) v ∷ []) t) (patched_from n (remove (k ∷ ks) ∷ add (k ∷ ks) v ∷ []) t)
  replaced_by n None e = outcome-as _ (Err (n, Missing)) _ (Err (n, Missing))
      (ap (λ o. next n (onwards (or_missing o) (λ _. Ok (set_pointed (k ∷ ks) v t))) (patched_from (suc n) [])) e)
      (ap (λ r. next n r (patched_from (suc n) (add (k ∷ ks) v ∷ []))) (not-removed k ks t e)) refl
  replaced_by n (Some u) e =
      let h = renews-at k ks v u t e in
      outcome-as _ (Ok (set_pointed (k ∷ ks) v t)) _ (Ok h.1)
      (ap (λ o. next n (onwards (or_missing o) (λ _. Ok (set_pointed (k ∷ ks) v t))) (patched_from (suc n) [])) e)
      (ap (λ r. next n r (patched_from (suc n) (add (k ∷ ks) v ∷ []))) h.2 ∙ ap (λ r. next (suc n) r (patched_from (suc (suc n)) [])) h.3) h.4

pub replaced-anew : (n : ℕ) (ks : List (List ℕ)) (v t : Tree) → ks ≢ [] → SameOutcome (patched_from n (replace ks v ∷ []) t) (patched_from n (remove ks ∷ add ks v ∷ []) t)
replaced-anew n [] v t h = absurd (h refl)
replaced-anew n (k ∷ ks) v t h = replaced_by k ks v t n (pointed (k ∷ ks) t) refl
