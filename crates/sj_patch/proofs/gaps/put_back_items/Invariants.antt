use Rattle.std.proofs.Common.{◌≡◌, ◌≤◌, vec_len, vec_capacity}
use Rattle.sj_text_core.specs.Tree.{list}
use Rattle.sj_document.proofs.Arrays.{items_seen}
use Rattle.sj_patch.specs.inner.Changed.{items_filled}
use Rattle.sj_patch.proofs.gaps.put_back_items.Given as goal

abbrev pub invariant-loop-index : goal.invariant-loop-index
invariant-loop-index g l =
    let t = g.T.KeyText.text_of in record {
      space : l.places ≤ vec_capacity l.items;
      rest : items_filled t l.places l.left.items (list (items_seen t l.items.items)) ≡ items_filled t l.places l.fn.taken.items (list (items_seen t l.fn.items.items));
    }

abbrev pub decreases-loop-index : goal.decreases-loop-index
decreases-loop-index g l = vec_len l.left
