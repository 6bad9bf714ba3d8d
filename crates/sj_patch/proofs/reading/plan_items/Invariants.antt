use Rattle.std.proofs.Common.{◌≡◌, length, map, drop}
use Rattle.sj_patch.specs.inner.Filled.{filled_all}
use Rattle.sj_patch.specs.Meant.{meant}
use Rattle.sj_patch.specs.Operations.{operations_from}
use Rattle.sj_patch.proofs.Behind.{behind, seen}
use Rattle.sj_patch.proofs.reading.plan_items.Given as goal

abbrev pub invariant-loop-index : goal.invariant-loop-index
invariant-loop-index g l =
    let t = g.T.KeyText.text_of in
    record {
      count : length l.operations.items ≡ l.index;
      read : behind (filled_all (map (meant t) l.operations.items) (seen t l.items)) (operations_from l.index (seen t (drop l.index l.items))) ≡ operations_from 0 (seen t l.items);
    }
