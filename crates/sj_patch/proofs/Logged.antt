-- A log of undos.
use Rattle.std.proofs.Common.{◌≡◌, ℕ, List, [], ◌∷◌, ◌++◌, Ok, Some, refl, sym, ap, ◌∙◌}
use Rattle.sj_text_core.specs.Tree.{Tree}
use Rattle.sj_pointer.specs.Pointed.{pointed}
use Rattle.sj_patch.specs.Patch.{added, onwards, or_missing, removed, replaced}
use Rattle.sj_patch.specs.inner.Changed.{carried, or_same, undone, undone_at, undo_one, refilled, reversed_at, taken_at, change_at, IsNoUndo, Undoes}
use Rattle.sj_patch.specs.declared.steps.Undo.{Undo}
use Rattle.sj_patch.specs.declared.change.Change.{Change}
use Rattle.sj_patch.specs.declared.change.Change.TheVariants.{Put, Take, Swap}
use Rattle.sj_patch.specs.declared.change.Change.TheVariants as change
use Rattle.sj_patch.specs.declared.reversal.Reversal.{Reversal}
use Rattle.sj_patch.proofs.Reverting.{swapped-replaced}
use Rattle.sj_document.specs.Document.{document_tree}
use Rattle.sj_document.specs.declared.value.Document.{Document}

module _ {T : Type 0} (t : T → List ℕ) where
  -- the last is undone first
  pub undone-last : (xs : List (Undo T)) (x : Undo T) (u : Tree) → undone t (xs ++ x ∷ []) u ≡ undone t xs (undo_one t x u)
  undone-last [] x u = refl
  undone-last (y ∷ ys) x u = ap (undo_one t y) (undone-last ys x u)

  undoes_of : (c : Change T) (P : Type 0) → IsNoUndo t c → Undoes t c P → P
  undoes_of (Put v) P n h = h
  undoes_of Take P n h = h
  undoes_of (Swap v) P n h = h
  undoes_of (change.Undo r v) P n h = absurd n

  -- a change that was made is undone
  pub logged : (c : Change T) (r : Reversal T) (v : Tree) (ks : List (List ℕ)) (before after : Tree) → IsNoUndo t c → Undoes t c (reversed_at t r v ks after ≡ Ok before) → undone_at t r v ks after ≡ before
  logged c r v ks before after n h = ap (or_same after) (undoes_of c _ n h)

  -- what undoes a put takes the value out, which fills the gap
  pub filled_back : (gap r : Reversal T) (from path : List (List ℕ)) (v moved before after : Tree) → reversed_at t r v path after ≡ Ok before → taken_at t r path after ≡ moved
      → refilled t gap from (taken_at t r path after) after (reversed_at t r v path after) ≡ undone_at t gap moved from before
  filled_back gap r from path v moved before after e f = ap (refilled t gap from (taken_at t r path after) after) e ∙ ap (λ m. undone_at t gap m from before) f

  pub put-added : (v : Document T) (ks : List (List ℕ)) (u : Tree) → change_at t (Put v) ks u ≡ added ks (document_tree t v) u
  put-added v [] u = refl
  put-added v (k ∷ ks) u = refl

  pub take-removed : (ks : List (List ℕ)) (u : Tree) → change_at t Take ks u ≡ removed ks u
  take-removed [] u = refl
  take-removed (k ∷ ks) u = refl

  -- where something is found and removed, it is added to what is left
  pub carried-found : (v : Document T) (from to : List (List ℕ)) (u w : Tree) → change_at t Take from u ≡ Ok w → pointed from u ≡ Some (document_tree t v) → carried from to u ≡ added to (document_tree t v) w
  carried-found v from to u w e f =
      ap (λ r. onwards r (λ w. onwards (or_missing (pointed from u)) (λ v. added to v w))) (sym (take-removed from u) ∙ e)
      ∙ ap (λ o. onwards (or_missing o) (λ v. added to v w)) f

  pub swap-replaced : (v : Document T) (ks : List (List ℕ)) (u : Tree) → change_at t (Swap v) ks u ≡ replaced ks (document_tree t v) u
  swap-replaced v [] u = refl
  swap-replaced v (k ∷ ks) u = swapped-replaced k ks (document_tree t v) u
