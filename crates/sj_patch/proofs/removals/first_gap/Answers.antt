use Rattle.std.proofs.Common.{◌≡◌, [], ◌∷◌, refl, sym, subst}
use Rattle.sj_patch.specs.inner.Changed.{IsFirstGap}
use Rattle.sj_patch.specs.declared.gaps.Gaps.TheVariants.{Members, Items}
use Rattle.sj_patch.proofs.Gathered.{first_member, first_item}
use Rattle.sj_patch.proofs.removals.first_gap.Goals as goal

pub returns-in-Ok-clause-gap : goal.returns-in-Ok-clause-gap
returns-in-Ok-clause-gap g c =
    let t = g.T.KeyText.text_of in
    let p = c.in-MemberBack in
    let v = c.args.value in
    let first : c.push.new.self.items ≡ (p.index, p.key, v) ∷ [] = rw (c.push.ensures.items, c.unwrap.ensures, c.in-Ok.ensures.items) refl in
    subst (λ r. IsFirstGap t r v (Members p.room c.push.new.self)) (sym p.is) (first_member t p.room c.push.new.self p.index p.key v first)

pub returns-in-Ok-with_capacity-clause-gap : goal.returns-in-Ok-with_capacity-clause-gap
returns-in-Ok-with_capacity-clause-gap g c =
    let t = g.T.KeyText.text_of in
    let p = c.in-ItemBack in
    let v = c.args.value in
    let first : c.push-in-Ok-with_capacity.new.self.items ≡ (p.index, v) ∷ [] = rw (c.push-in-Ok-with_capacity.ensures.items, c.unwrap-in-Ok-with_capacity.ensures, c.in-Ok-with_capacity.ensures.items) refl in
    subst (λ r. IsFirstGap t r v (Items p.room c.push-in-Ok-with_capacity.new.self)) (sym p.is) (first_item t p.room c.push-in-Ok-with_capacity.new.self p.index v first)
