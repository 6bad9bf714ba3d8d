use Rattle.std.proofs.Common.{◌≡◌, refl, sym, ap, ◌∙◌, rules}
use Rattle.sj_document.proofs.Results.{on_some}
use Rattle.sj_lazy.specs.Value.{owned, owned_of}
use Rattle.sj_lazy.specs.declared.value.Lazy.TheVariants.{Value}
use Rattle.sj_lazy.proofs.value.Lazy.owned_mut.Goals as goal

pub returns-in-Value : goal.returns-in-Value
returns-in-Value g c = let t = g.T.KeyText.text_of in (
  (
    refl,
    λ w. on_some c.owned_mut.result (λ h. ap (owned t) (let e : _ ≡ Value (c.owned_mut.follows.lender w) = search rules in e) ∙ h) (c.owned_mut.follows.holds w),
    (let e : _ ≡ Value c.owned_mut.follows.lender-at-none = search rules in e) ∙ ap Value (c.owned_mut.follows.holds-at-none ∙ c.in-Value.value-is) ∙ sym c.in-Value.is,
  ),
  record { writes_back = tt; value = c.owned_mut.ensures.value ∙ ap (owned_of t) c.in-Value.value-is ∙ sym (ap (owned t) c.in-Value.is) },
)
