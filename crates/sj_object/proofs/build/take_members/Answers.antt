use Rattle.std.proofs.Common.{◌≡◌, ◌+◌, ◌-◌, suc, [], ◌∷◌, drop, get_or, arith, refl, sym, ap, ◌∙◌, subst}
use Rattle.sj_text_core.specs.Nodes.{nothing, width}
use Rattle.sj_tape.specs.Marks.{text_in}
use Rattle.sj_tape.specs.Stretches.{nodes_in}
use Rattle.sj_tape.proofs.Stretched.{few}
use Rattle.sj_object.proofs.Strings.{text_key}
use Rattle.sj_object.specs.inner.Piles.{pile, first_mark, made_of, left_of, CanTake, taken_pairs, left_pairs, CanTakePairs, kept_by, entry_pairs}
use Rattle.sj_object.proofs.PileEntries.{kept_more}
use Rattle.sj_object.proofs.Piles.{one_member}
use Rattle.sj_object.proofs.build.take_members.Goals as goal

pub text_at-requires : goal.text_at-requires
text_at-requires g c =
    let e : c.args.len - c.loop-i.i ≡ suc (c.args.len - (c.loop-i.i + 1)) = omega arith in
    (one_member (nodes_in c.args.nodes) c.loop-i.at _ _ _ _ _ e refl refl c.loop-i.invariant.can).key.inside

pub unreachable-requires : goal.unreachable-requires
unreachable-requires g c =
    let e : c.args.len - c.loop-i.i ≡ suc (c.args.len - (c.loop-i.i + 1)) = omega arith in
    let text = c.in_default.ensures ∙ ap text_in (one_member (nodes_in c.args.nodes) c.loop-i.at _ _ _ _ _ e refl refl c.loop-i.invariant.can).text in
    cc

pub from-behind-requires : goal.from-behind-requires
from-behind-requires g c =
    let e : c.args.len - c.loop-i.i ≡ suc (c.args.len - (c.loop-i.i + 1)) = omega arith in
    let w = (one_member (nodes_in c.args.nodes) c.loop-i.at _ _ _ _ _ e refl refl c.loop-i.invariant.can).whole in
    omega (arith, w.inside)

pub put_member-requires : goal.put_member-requires
put_member-requires g c κs =
    let e : c.args.len - c.loop-i.i ≡ suc (c.args.len - (c.loop-i.i + 1)) = omega arith in
    let one = one_member (nodes_in c.args.nodes) c.loop-i.at _ _ _ _ _ e refl refl c.loop-i.invariant.can in
    ((refl, tt), subst (λ l. CanTake l (pile g.V.Made.tree c.loop-i.made.items)) (sym c.from-behind.ensures) one.take)

pub overflow_add-at : goal.overflow_add-at
overflow_add-at g c =
    let e : c.args.len - c.loop-i.i ≡ suc (c.args.len - (c.loop-i.i + 1)) = omega arith in
    omega (arith, (one_member (nodes_in c.args.nodes) c.loop-i.at _ _ _ _ _ e refl refl c.loop-i.invariant.can).whole.inside, few c.args.nodes)

pub overflow_add-at-in-loop-i : goal.overflow_add-at-in-loop-i
overflow_add-at-in-loop-i g c =
    let e : c.args.len - c.loop-i.i ≡ suc (c.args.len - (c.loop-i.i + 1)) = omega arith in
    let one = (one_member (nodes_in c.args.nodes) c.loop-i.at _ _ _ _ _ e refl refl c.loop-i.invariant.can).whole in
    omega (arith, one.wide, ap width (ap first_mark c.from-behind.ensures ∙ one.first), c.in_ok-width.ensures.width, few c.args.nodes)

pub overflow_add-at-in-loop-i-2 : goal.overflow_add-at-in-loop-i-2
overflow_add-at-in-loop-i-2 g c =
    let e : c.args.len - c.loop-i.i ≡ suc (c.args.len - (c.loop-i.i + 1)) = omega arith in
    let one = (one_member (nodes_in c.args.nodes) c.loop-i.at _ _ _ _ _ e refl refl c.loop-i.invariant.can).whole in
    omega (arith, one.wide, ap width (ap first_mark c.from-behind.ensures ∙ one.first), c.in_ok-width.ensures.width, few c.args.nodes)

pub loop-i-preserved : goal.loop-i-preserved
loop-i-preserved g c =
    let tree = g.V.Made.tree in
    let r = c.args.repeats in
    let inv = c.loop-i.invariant in
    let m = c.args.len - (c.loop-i.i + 1) in
    let e : c.args.len - c.loop-i.i ≡ suc (c.args.len - (c.loop-i.i + 1)) = omega arith in
    let one = one_member (nodes_in c.args.nodes) c.loop-i.at _ _ _ _ _ e refl refl inv.can in
    let ns = drop c.loop-i.at (nodes_in c.args.nodes) in
    let ps = pile tree c.loop-i.made.items in
    let es = g.V.Map.MapOf.entries c.loop-i.members in
    let node = get_or (nodes_in c.args.nodes) (c.loop-i.at + 1) nothing in
    let first : first_mark (nodes_in c.from-behind.result) ≡ node = ap first_mark c.from-behind.ensures ∙ one.whole.first in
    let more = taken_pairs m (drop (c.loop-i.at + 1 + width node) (nodes_in c.args.nodes)) (left_of node ps) in
    let place : c.loop-i.at + (1 + c.in_ok-width.width) ≡ c.loop-i.at + 1 + width node = omega (arith, c.in_ok-width.ensures.width, ap width first) in
    let after = ap (λ k. drop k (nodes_in c.args.nodes)) place in
    let rest = c.in_ok-width.ensures.rest ∙ ap (λ x. left_of x ps) first in
    let told = c.in_ok-width.ensures.means ∙ ap (λ x. kept_by r (entry_pairs tree es) ((c.in-Some.text.now, made_of x ps) ∷ [])) first in
    let key = text_key _ _ c.in-Some.ensures in
    record {
      can = subst (λ l. CanTakePairs m l (pile tree c.put_member.new.made.items)) (sym after) (subst (CanTakePairs m _) (sym rest) one.can);
      told = (λ i. kept_by r (told i) (taken_pairs m (after i) (rest i)))
          ∙ kept_more r (entry_pairs tree es) (c.in-Some.text.now, made_of node ps) more
          ∙ (λ i. kept_by r (entry_pairs tree es) ((key i, made_of node ps) ∷ more))
          ∙ ap (kept_by r (entry_pairs tree es)) (sym one.made) ∙ ap (λ k. kept_by r (entry_pairs tree es) (taken_pairs k ns ps)) (sym e) ∙ inv.told;
      less = (λ i. left_pairs m (after i) (rest i)) ∙ sym one.less ∙ ap (λ k. left_pairs k ns ps) (sym e) ∙ inv.less;
      made = λ h.
          let a = inv.made h in
          c.in_ok-width.ensures.property a.0 a.1;
    }
