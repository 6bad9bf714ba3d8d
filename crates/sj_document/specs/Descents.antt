-- A part that was taken out of a tree along a path: what it stood in has, in its place, what that stood in in turn.
use Rattle.std.specs.Prelude.{◌≡◌, ℕ, List, Some, None, Result}
use Rattle.std.specs.Result.{MatchResult}
use Rattle.sj_text_core.specs.Tree.{Tree}
use Rattle.sj_text_core.specs.Paths.{Step, step_into, set_found}
use Rattle.sj_document.specs.Document.{document_tree}
use Rattle.sj_document.specs.declared.value.Document.{Document}

-- what the step finds is answered, and other stands in its place; or it finds nothing, all stays, and other comes back
abbrev pub Exchanged : {T : Type 0} → (T → List ℕ) → Step → Document T → Tree → Tree → Result (Document T) (Document T) → Type 0
Exchanged t s other before after r = MatchResult r (λ part. (step_into s before ≡ Some (document_tree t part)) × (after ≡ set_found s (document_tree t other) before)) (λ back. (step_into s before ≡ None) × (after ≡ before) × (back ≡ other))
