use Rattle.std.proofs.Common.{◌≡◌, is_some}
use Rattle.sj_document.specs.SameWith.{value_of_text}
use Rattle.sj_lazy.proofs.value.cmp.map.has_key.Given as goal

abbrev pub invariant-loop-key : goal.invariant-loop-key
invariant-loop-key g l =
    let t = g.K.KeyText.text_of in
    record {
      can : (goal.iterator-loop-key g).can_next l.key-iterator;
      ends : (goal.iterator-loop-key g).is_finite l.key-iterator;
      ahead : is_some (value_of_text t l.text l.key-iterator) ≡ is_some (value_of_text t l.text l.fn.entries.entries);
    }
