-- What a refused edit of an owned document says of the lazy value.
use Rattle.std.proofs.Common.{◌≡◌, ℕ, List, Some, Result, Ok, Err, inr, ap, ◌∙◌}
use Rattle.std.specs.Result.{IfErr, OnErr}
use Rattle.sj_text_core.specs.Tree.{Tree}
use Rattle.sj_lazy.specs.declared.value.Lazy.{Lazy}
use Rattle.sj_lazy.specs.Value.{owned}
use Rattle.sj_lazy.specs.Edits.{IsLeft}

module _ {P B T : Type 0} (t : T → List ℕ) (u : Tree) (old new : Lazy P B T) (before after : Tree) where
  pub left_by : {A E : Type 0} (r : Result A E) (P R : E → Type 0) (Q : E → Type 0) → owned t new ≡ Some after → before ≡ u → OnErr r (after ≡ before) → ((e : E) → P e → R e)
      → IfErr r P → IfErr r (λ e. IsLeft t u old new (Q e) (R e))
  left_by (Ok a) P R Q o k h f p = p
  left_by (Err e) P R Q o k h f p = inr (o ∙ ap Some (h ∙ k), f e p)
