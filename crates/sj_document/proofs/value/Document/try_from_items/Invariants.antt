use Rattle.std.proofs.Common.{◌≡◌}
use Rattle.sj_document.proofs.value.Document.try_from_items.Given as goal

abbrev pub invariant-loop-item : goal.invariant-loop-item
invariant-loop-item g l = (goal.iterator-loop-item g).can_next l.item-iterator × (goal.iterator-loop-item g).is_finite l.item-iterator × (l.all.items ≡ l.yielded)
