use Rattle.std.proofs.Common.{◌≡◌, [], ◌∷◌, ◌++◌, refl, sym, ap, ◌∙◌}
use Rattle.std.specs.Vec.{vec_capacity}
use Rattle.sj_patch.specs.inner.Changed.{gaps_filled, gap_filled, item_step, items_filled}
use Rattle.sj_patch.specs.declared.gaps.Gap.TheVariants.{Item}
use Rattle.sj_patch.proofs.Stepped.{stepped-last}
use Rattle.sj_patch.proofs.gaps.Gaps.push_item.Goals as goal

pub returns : goal.returns
returns g c =
    let t = g.T.KeyText.text_of in
    let i = c.args.index in
    let v = c.args.value in
    let n = vec_capacity c.in-Items.room in
    let old = c.in-Items.taken.items in
    let more : c.push.new.self.items ≡ old ++ (i, v) ∷ [] = rw (c.push.ensures.items, c.unwrap.ensures) refl in
    λ u. ap (λ l. items_filled t n l u) more ∙ stepped-last (item_step t n) old (i, v) u ∙ sym (ap (λ gs. gaps_filled t gs (gap_filled t gs (Item i v) u)) c.in-Items.is)
