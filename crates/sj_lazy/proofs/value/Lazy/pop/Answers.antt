use Rattle.std.proofs.Common.{refl, sym, ap, ◌∙◌}
use Rattle.sj_text_core.specs.Reads.{as_items}
use Rattle.sj_lazy.proofs.Lefts.{left_by}
use Rattle.sj_lazy.proofs.value.Lazy.pop.Goals as goal

pub returns-in-Ok-clause-refused : goal.returns-in-Ok-clause-refused
returns-in-Ok-clause-refused g c =
    let left = rw c.in-Ok.is at (c.as_mut.follows.holds c.pop.new.self) in
    left_by g.T.KeyText.text_of _ _ _ _ _ c.pop.result _ _ _ (left refl) c.in-Ok.ensures.value c.pop.ensures.refused (λ x e. (e.0, sym (ap as_items c.in-Ok.ensures.value) ∙ e.1)) c.pop.ensures.kind
