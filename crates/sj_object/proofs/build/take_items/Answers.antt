use Rattle.std.proofs.Common.{rules, ◌≡◌, ◌+◌, ◌-◌, suc, [], ◌++◌, map, drop, All, arith, refl, sym, ap, ◌∙◌, subst}
use Rattle.std.proofs.lemmas.List.Elements.{All-nil, All-push}
use Rattle.sj_tape.specs.Stretches.{nodes_in}
use Rattle.sj_tape.proofs.Stretched.{few}
use Rattle.sj_object.specs.inner.Piles.{pile, taken, trees_left, CanTakeItems}
use Rattle.sj_object.proofs.Piles.{one_item, map_push}
use Rattle.sj_object.proofs.build.take_items.Goals as goal

pub loop-i-init : goal.loop-i-init
loop-i-init g c =
    let tree = g.V.Made.tree in
    let ps = pile tree c.args.made.now.items in
    let ns = nodes_in c.args.nodes in
    let none : c.in_ok-items.items.items ≡ [] = search rules in
    let n : c.args.len - 0 ≡ c.args.len = omega arith in
    record {
      can = subst (λ k. CanTakeItems k ns ps) (sym n) c.requires;
      told = ap (λ vs. map tree vs ++ taken (c.args.len - 0) ns ps) none ∙ ap (λ k. taken k ns ps) n;
      less = ap (λ k. trees_left k ns ps) n;
      made = λ h. (subst (All g.V.Made.built) (sym none) (All-nil g.V.Made.built), h);
    }

pub at-node-requires : goal.at-node-requires
at-node-requires g c =
    let e : c.args.len - c.loop-i.i ≡ suc (c.args.len - (c.loop-i.i + 1)) = omega arith in
    (one_item (nodes_in c.args.nodes) c.loop-i.at _ _ _ _ e refl c.loop-i.invariant.can).whole.inside

pub take_value-requires : goal.take_value-requires
take_value-requires g c κs =
    let e : c.args.len - c.loop-i.i ≡ suc (c.args.len - (c.loop-i.i + 1)) = omega arith in
    ((refl, tt), (one_item (nodes_in c.args.nodes) c.loop-i.at _ _ _ _ e c.at-node.ensures c.loop-i.invariant.can).whole.there)

pub width-requires : goal.width-requires
width-requires g c =
    let e : c.args.len - c.loop-i.i ≡ suc (c.args.len - (c.loop-i.i + 1)) = omega arith in
    let w = (one_item (nodes_in c.args.nodes) c.loop-i.at _ _ _ _ e c.at-node.ensures c.loop-i.invariant.can).whole.wide in
    omega (arith, w, few c.args.nodes)

pub overflow_add-at : goal.overflow_add-at
overflow_add-at g c =
    let e : c.args.len - c.loop-i.i ≡ suc (c.args.len - (c.loop-i.i + 1)) = omega arith in
    let w = (one_item (nodes_in c.args.nodes) c.loop-i.at _ _ _ _ e c.at-node.ensures c.loop-i.invariant.can).whole.wide in
    omega (arith, w, c.width.ensures, few c.args.nodes)

pub loop-i-preserved : goal.loop-i-preserved
loop-i-preserved g c =
    let tree = g.V.Made.tree in
    let built = g.V.Made.built in
    let inv = c.loop-i.invariant in
    let m = c.args.len - (c.loop-i.i + 1) in
    let e : c.args.len - c.loop-i.i ≡ suc (c.args.len - (c.loop-i.i + 1)) = omega arith in
    let one = one_item (nodes_in c.args.nodes) c.loop-i.at _ _ _ _ e c.at-node.ensures inv.can in
    let ns = drop c.loop-i.at (nodes_in c.args.nodes) in
    let ps = pile tree c.loop-i.made.items in
    let after = ap (λ w. drop (c.loop-i.at + w) (nodes_in c.args.nodes)) c.width.ensures in
    let rest = c.in_ok-take_value.ensures.rest in
    record {
      can = subst (λ l. CanTakeItems m l (pile tree c.take_value.new.made.items)) (sym after) (subst (CanTakeItems m _) (sym rest) one.can);
      told = (λ i. map tree c.push.new.self.items ++ taken m (after i) (rest i))
          ∙ map_push tree c.loop-i.items.items c.push.new.self.items c.in_ok-take_value.field-0 _ _ c.in_ok-push.ensures.items c.in_ok-take_value.ensures.means
          ∙ ap (λ l. map tree c.loop-i.items.items ++ l) (sym one.made) ∙ ap (λ k. map tree c.loop-i.items.items ++ taken k ns ps) (sym e) ∙ inv.told;
      less = (λ i. trees_left m (after i) (rest i)) ∙ sym one.less ∙ ap (λ k. trees_left k ns ps) (sym e) ∙ inv.less;
      made = λ h.
          let a = inv.made h in
          let d = c.in_ok-take_value.ensures.property a.1 in
          (subst (All built) (sym c.in_ok-push.ensures.items) (All-push built c.loop-i.items.items c.in_ok-take_value.field-0 a.0 d.0), d.1);
    }
