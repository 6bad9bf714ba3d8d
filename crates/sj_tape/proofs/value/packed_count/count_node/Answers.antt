use Rattle.std.proofs.Common.{sym, ap, ◌∙◌}
use Rattle.sj_print.specs.inner.Printed.{mark_len}
use Rattle.sj_tape.specs.Marks.{mark}
use Rattle.sj_tape.proofs.PackedCounts.{static_len, counts_text}
use Rattle.sj_tape.proofs.value.packed_count.count_node.Goals as goal

pub returns-in-Static : goal.returns-in-Static
returns-in-Static c =
    counts_text _ _ _ _ c.put_static.ensures (ap (λ m. mark_len m) (sym c.node.ensures ∙ ap (λ n. mark n) c.in-Static.is) ∙ static_len c.in-Static.scalar)

pub returns-in-String : goal.returns-in-String
returns-in-String c = counts_text _ _ _ _ c.put_quoted.ensures (ap (λ m. mark_len m) (sym c.node.ensures ∙ ap (λ n. mark n) c.in-String.is))
