use Rattle.std.proofs.Common.{◌++◌, sym, ap, ◌∙◌, length, arith}
use Rattle.sj_canonical.specs.inner.Walks.{canonical_rest}
use Rattle.sj_text_core.proofs.Begun.{begun-on}
use Rattle.sj_canonical.proofs.Rests.{rest_push, moves-whole, moves-fewer}
use Rattle.sj_canonical.proofs.walk.walk.Goals as goal

pub loop-opened-smaller : goal.loop-opened-smaller
loop-opened-smaller g c =
    let P = g.P.Parts in
    let left = canonical_rest c.args.choice P.items_left P.key_of P.tree_of in
    let pushed = ap left c.in-Some.ensures.items ∙ rest_push c.args.choice P.items_left P.key_of P.tree_of c.pop.new.self.items c.in-Some.opened in
    omega (arith, moves-fewer _ _ _ _ c.in_ok-further.ensures.ok, ap (λ l. length l) pushed)

pub loop-opened-preserved : goal.loop-opened-preserved
loop-opened-preserved g c =
    let P = g.P.Parts in
    let left = canonical_rest c.args.choice P.items_left P.key_of P.tree_of in
    let pushed = ap left c.in-Some.ensures.items ∙ rest_push c.args.choice P.items_left P.key_of P.tree_of c.pop.new.self.items c.in-Some.opened in
    record {
      told = moves-whole _ _ _ _ c.in_ok-further.ensures.ok ∙ ap (λ l. g.G.BaseGenerator.written c.loop-opened.generator ++ l) (sym pushed) ∙ c.loop-opened.invariant.told;
      begun = begun-on _ _ _ c.loop-opened.invariant.begun c.further.ensures.begun;
      sink = c.further.ensures.sink ∙ c.loop-opened.invariant.sink;
    }
