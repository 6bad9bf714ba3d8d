-- A list of nodes is the preorder of at most one tree.
use Rattle.std.proofs.Common.{◌≡◌, ◌↔◌, List, sym, ◌∙◌, ap}
use Rattle.sj_text_core.specs.Tree.{Tree}
use Rattle.sj_text_core.specs.Nodes.{Mark, flat, tree_of, IsPreorder}
use Rattle.sj_text_core.specs.Code.{tree_of-flat}

pub flat-same : (t u : Tree) → flat t ≡ flat u → t ≡ u
flat-same t u e = sym (tree_of-flat t) ∙ ap (λ ns. tree_of ns) e ∙ tree_of-flat u

-- a preorder is the list of some tree's nodes
pub preorder-flat : (ns : List Mark) → IsPreorder ns ↔ ((t : Tree) × (ns ≡ flat t))
preorder-flat ns = (λ e. (tree_of ns, e), λ h. h.1 ∙ ap (λ t. flat t) (sym (ap (λ ms. tree_of ms) h.1 ∙ tree_of-flat h.0)))
