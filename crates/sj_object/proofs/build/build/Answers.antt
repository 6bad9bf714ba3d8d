use Rattle.std.proofs.Common.{rules, ◌≡◌, ◌-◌, [], All, drop, refl, sym, ap, ◌∙◌, subst, arith}
use Rattle.std.proofs.lemmas.List.Elements.{All-nil}
use Rattle.std.proofs.lemmas.Result.{IfOk-weaker}
use Rattle.sj_tape.specs.Stretches.{nodes_in}
use Rattle.sj_object.specs.inner.Piles.{pile, made_of, IsThere, Needs, grown}
use Rattle.sj_object.proofs.Piles.{ahead, turn_at, last_one, first_at, preorder_some, nothing_ahead}
use Rattle.sj_object.proofs.build.build.Goals as goal

pub loop-at-init : goal.loop-at-init
loop-at-init g c =
    let none : c.new-made.result.items ≡ [] = search rules in
    record {
      within = omega (arith, c.len-at.ensures);
      read = ap (pile g.V.Made.tree) none ∙ nothing_ahead c.args.repeats (nodes_in c.args.nodes) c.len-at.result c.len-at.ensures;
      made = subst (All g.V.Made.built) (sym none) (All-nil g.V.Made.built);
    }

pub from-requires : goal.from-requires
from-requires g c = omega (arith, c.loop-at.invariant.within)

pub put-requires : goal.put-requires
put-requires g c κs =
    let ns = nodes_in c.args.nodes in
    let t = turn_at c.args.repeats ns c.loop-at.at (c.loop-at.at - 1) (omega arith) (omega (arith, c.loop-at.invariant.within)) c.requires in
    ((refl, tt), subst (λ l. Needs l (pile g.V.Made.tree c.loop-at.made.items)) (sym c.from.ensures) (subst (Needs _) (sym c.loop-at.invariant.read) t.0))

pub loop-at-preserved : goal.loop-at-preserved
loop-at-preserved g c =
    let ns = nodes_in c.args.nodes in
    let inv = c.loop-at.invariant in
    let t = turn_at c.args.repeats ns c.loop-at.at (c.loop-at.at - 1) (omega arith) (omega (arith, inv.within)) c.requires in
    record {
      within = omega (arith, inv.within);
      read = c.in_ok-put.ensures.means ∙ (λ i. grown c.args.repeats (c.from.ensures i) (inv.read i)) ∙ t.1;
      made = c.in_ok-put.ensures.property inv.made;
    }

pub at-requires : goal.at-requires
at-requires g c = preorder_some (nodes_in c.args.nodes) c.requires

pub take_value-requires : goal.take_value-requires
take_value-requires g c κs =
    let ns = nodes_in c.args.nodes in
    let zero : c.loop-at.at ≡ 0 = omega arith in
    let all : pile g.V.Made.tree c.loop-at.made.items ≡ ahead c.args.repeats ns = c.loop-at.invariant.read ∙ ap (λ n. ahead c.args.repeats (drop n ns)) zero in
    ((refl, tt), subst (IsThere _) (sym all) (subst (λ m. IsThere m (ahead c.args.repeats ns)) (first_at 0 ns ∙ sym c.at.ensures) (last_one c.args.repeats ns c.requires).0))

pub returns-clause-means : goal.returns-clause-means
returns-clause-means g c =
    let ns = nodes_in c.args.nodes in
    let zero : c.loop-at.at ≡ 0 = omega arith in
    let all : pile g.V.Made.tree c.loop-at.made.items ≡ ahead c.args.repeats ns = c.loop-at.invariant.read ∙ ap (λ n. ahead c.args.repeats (drop n ns)) zero in
    let first = c.at.ensures ∙ sym (first_at 0 ns) in
    IfOk-weaker c.take_value.result _ _ (λ v h. h ∙ (λ i. made_of (first i) (all i)) ∙ (last_one c.args.repeats ns c.requires).1) c.take_value.ensures.means

pub returns-clause-property : goal.returns-clause-property
returns-clause-property g c = IfOk-weaker c.take_value.result _ _ (λ v h. h.0) (c.take_value.ensures.property c.loop-at.invariant.made)
