use Rattle.std.proofs.Common.{sym, ◌∙◌}
use Rattle.sj_text_core.specs.Repeats.{keep_by}
use Rattle.sj_object.proofs.read.deserialize_with_buffers.Goals as goal

pub returns-in-Ok-clause-only : goal.returns-in-Ok-clause-only
returns-in-Ok-clause-only g c = λ u s. c.in-Ok.ensures.means ∙ (λ i. keep_by (c.as_value.ensures.choice i) ((c.as_value.ensures.tree ∙ sym (c.in_ok-tape.ensures.only u s)) i))
