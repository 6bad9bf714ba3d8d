-- A move is a removal and then an addition.
use Rattle.std.proofs.Common.{◌≡◌, ◌≢◌, ℕ, ◌&&◌, true, false, List, [], ◌∷◌, Option, Some, None, Ok, Err, if◌then◌else◌, refl, ap, ◌∙◌, subst}
use Rattle.std.proofs.lemmas.Slice.Eq.{bytes_eq-Decides}
use Rattle.sj_text_core.specs.Tree.{Tree}
use Rattle.sj_text_core.specs.Same.{Same}
use Rattle.sj_text_core.proofs.Writes.{set_at-same}
use Rattle.sj_pointer.specs.Pointed.{path_of, pointed}
use Rattle.sj_patch.specs.Patch.{move, or_missing, onwards, added, removed, stayed, begins, applied}
use Rattle.sj_patch.specs.Laws.{SameOutcome, removed_added}
use Rattle.sj_patch.proofs.Outcomes.{outcome-as}
use Rattle.sj_patch.proofs.Renewing.{renews-at, not-removed}
use Rattle.sj_text_core.specs.declared.patch_fault.OperationFault.TheVariants.{Missing, IntoItself}

module _ (k : List ℕ) (ks : List (List ℕ)) (t : Tree) where
  moved_by : (to : List (List ℕ)) (o : Option Tree) → pointed (k ∷ ks) t ≡ o → onwards (removed (k ∷ ks) t) (λ u. onwards (or_missing o) (λ v. added to v u)) ≡ onwards (or_missing o) (λ v. onwards (removed (k ∷ ks) t) (added to v))
  moved_by to None e = ap (λ r. onwards r (λ u. Err Missing)) (not-removed k ks t e)
  moved_by to (Some v) e = refl

  stayed_by : (o : Option Tree) → pointed (k ∷ ks) t ≡ o → SameOutcome (onwards (or_missing o) (λ _. Ok t)) (onwards (or_missing o) (λ v. onwards (removed (k ∷ ks) t) (added (k ∷ ks) v)))
  stayed_by None e = refl
  stayed_by (Some v) e =
      let h = renews-at k ks v v t e in
      outcome-as _ (Ok t) _ (Ok h.1) refl (ap (λ r. onwards r (added (k ∷ ks) v)) h.2 ∙ h.3) (subst (λ s. Same s h.1) (set_at-same (path_of (k ∷ ks)) v t e) h.4)

pub moved-elsewhere : (from to : List (List ℕ)) (t : Tree) → begins from to ≡ false → applied (move from to) t ≡ removed_added from to t
moved-elsewhere [] to t e = let bad : true ≡ false = e in cc
moved-elsewhere (k ∷ ks) to t e =
    ap (λ b. if b then (if begins to (k ∷ ks) then stayed (k ∷ ks) t else Err IntoItself) else onwards (removed (k ∷ ks) t) (λ u. onwards (or_missing (pointed (k ∷ ks) t)) (λ v. added to v u))) e
    ∙ moved_by k ks t to (pointed (k ∷ ks) t) refl

begins_itself : (ks : List (List ℕ)) → begins ks ks ≡ true
begins_itself [] = refl
begins_itself (k ∷ ks) = ap (λ b. b && begins ks ks) ((bytes_eq-Decides k k).1 refl) ∙ begins_itself ks

pub moved-there : (ks : List (List ℕ)) (t : Tree) → ks ≢ [] → SameOutcome (applied (move ks ks) t) (removed_added ks ks t)
moved-there [] t h = absurd (h refl)
moved-there (k ∷ ks) t h = outcome-as _ (stayed (k ∷ ks) t) _ (removed_added (k ∷ ks) (k ∷ ks) t)
    (ap (λ b. if b then (if b then stayed (k ∷ ks) t else Err IntoItself) else onwards (removed (k ∷ ks) t) (λ u. onwards (or_missing (pointed (k ∷ ks) t)) (λ v. added (k ∷ ks) v u))) (begins_itself (k ∷ ks))) refl
    (stayed_by k ks t (pointed (k ∷ ks) t) refl)
