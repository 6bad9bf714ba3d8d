use Rattle.std.proofs.Common.{◌≡◌, ◌++◌, length}
use Rattle.sj_text_core.specs.Print.{compact}
use Rattle.sj_canonical.specs.Canonical.{canonical_by}
use Rattle.sj_text_core.specs.inner.Begun.{IsBegunBy}
use Rattle.sj_canonical.specs.inner.Walks.{canonical_rest}
use Rattle.sj_canonical.proofs.walk.walk.Given as goal

abbrev pub invariant-loop-opened : goal.invariant-loop-opened
invariant-loop-opened g l =
    let P = g.P.Parts in
    let G = g.G.BaseGenerator in
    record {
      told : G.written l.generator ++ canonical_rest l.fn.choice P.items_left P.key_of P.tree_of l.pile.items ≡ G.written l.fn.generator ++ compact (canonical_by l.fn.choice (P.tree_of l.fn.value));
      begun : IsBegunBy (G.written l.fn.generator) (G.written l.generator);
      sink : G.sink l.generator ≡ G.sink l.fn.generator;
    }

abbrev pub decreases-loop-opened : goal.decreases-loop-opened
decreases-loop-opened g l = length (canonical_rest l.fn.choice g.P.Parts.items_left g.P.Parts.key_of g.P.Parts.tree_of l.pile.items)
