-- What operations leave, up to the meaning of trees.
use Rattle.std.proofs.Common.{◌≡◌, Result, sym, subst}
use Rattle.sj_text_core.specs.Tree.{Tree}
use Rattle.sj_patch.specs.Laws.{SameOutcome}

-- by equal outcomes
pub outcome-as : {E : Type 0} (r r' s s' : Result Tree E) → r ≡ r' → s ≡ s' → SameOutcome r' s' → SameOutcome r s
outcome-as r r' s s' d e h = subst (λ x. SameOutcome x s) (sym d) (subst (λ x. SameOutcome r' x) (sym e) h)
