use Rattle.std.proofs.Common.{◌≡◌, [], ◌∷◌, ◌++◌, refl, sym, ap, ◌∙◌}
use Rattle.sj_patch.specs.inner.Changed.{undone}
use Rattle.sj_patch.proofs.Logged.{undone-last}
use Rattle.sj_patch.proofs.removals.gather.Goals as goal

pub returns : goal.returns
returns g c =
    let t = g.T.KeyText.text_of in
    let rest = c.pop.new.self.items in
    let last = c.gathered_in-last.result.0 in
    let log : c.push.new.self.items ≡ rest ++ last ∷ [] = rw (c.push.ensures.items, c.unwrap.ensures) refl in
    λ u. ap (λ l. undone t l u) log ∙ undone-last t rest last u ∙ ap (undone t rest) (c.gathered_in-last.ensures u) ∙ sym (undone-last t rest c.in-Some.last u) ∙ ap (λ l. undone t l u) (sym c.in-Some.ensures.items)
