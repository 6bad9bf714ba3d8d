use Rattle.std.proofs.Common.{drop}
use Rattle.std.specs.Slice.Iter.{iter_rest}
use Rattle.sj_document.specs.SameWith.{SameEach}
use Rattle.sj_document.proofs.value.cmp.others.same_each.Given as goal

abbrev pub invariant-loop-item : goal.invariant-loop-item
invariant-loop-item g l =
    let R = g.X.SameWith.same_with in
    record {
      on : SameEach R (drop l.item-index l.items) (iter_rest l.rest) → SameEach R l.items l.fn.others;
      off : SameEach R l.items l.fn.others → SameEach R (drop l.item-index l.items) (iter_rest l.rest);
    }
