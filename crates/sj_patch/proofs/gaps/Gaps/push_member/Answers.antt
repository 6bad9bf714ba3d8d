use Rattle.std.proofs.Common.{◌≡◌, [], ◌∷◌, ◌++◌, refl, sym, ap, ◌∙◌}
use Rattle.sj_object.specs.Rooms.{places}
use Rattle.sj_patch.specs.inner.Changed.{gaps_filled, gap_filled, member_step, stepped}
use Rattle.sj_patch.specs.declared.gaps.Gap.TheVariants.{Member}
use Rattle.sj_patch.proofs.Stepped.{stepped-last}
use Rattle.sj_patch.proofs.gaps.Gaps.push_member.Goals as goal

pub returns : goal.returns
returns g c =
    let t = g.T.KeyText.text_of in
    let i = c.args.index in
    let k = c.args.key in
    let v = c.args.value in
    let n = places c.in-Members.room in
    let old = c.in-Members.taken.items in
    let more : c.push.new.self.items ≡ old ++ (i, k, v) ∷ [] = rw (c.push.ensures.items, c.unwrap.ensures) refl in
    λ u. ap (λ l. stepped (member_step t n) l u) more ∙ stepped-last (member_step t n) old (i, k, v) u ∙ sym (ap (λ gs. gaps_filled t gs (gap_filled t gs (Member i k v) u)) c.in-Members.is)
