use Rattle.std.proofs.Common.{◌≡◌, ◌++◌}
use Rattle.std.specs.Vec.Iter.{into_iter_items}
use Rattle.sj_document.specs.SameWith.{SameEach}
use Rattle.sj_document.proofs.value.make.all_into.Given as goal

abbrev pub invariant-loop-value : goal.invariant-loop-value
invariant-loop-value g l = record {
  made : SameEach (λ d x. g.X.Into.converts x d) l.items.items l.yielded;
  all : l.fn.values.items ≡ l.yielded ++ into_iter_items l.value-iterator;
}
