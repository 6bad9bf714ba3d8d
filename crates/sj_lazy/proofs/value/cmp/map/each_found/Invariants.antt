use Rattle.sj_lazy.specs.Object.{lazy_members, lazy_object_choice}
use Rattle.sj_lazy.specs.SameMap.{counted}
use Rattle.sj_document.specs.inner.SameWith.{EachFound}
use Rattle.sj_lazy.proofs.value.cmp.map.each_found.Given as goal

abbrev pub invariant-loop-key : goal.invariant-loop-key
invariant-loop-key g l =
    let R = g.X.SameAsLazy.same_lazy in
    let t = g.K.KeyText.text_of in
    let c = lazy_object_choice l.object in
    let f = counted c (lazy_members l.object) in
    record {
      can : (goal.iterator-loop-key g).can_next l.key-iterator;
      ends : (goal.iterator-loop-key g).is_finite l.key-iterator;
      on : EachFound (λ u x. R (c, u) x) t f l.key-iterator → EachFound (λ u x. R (c, u) x) t f l.fn.entries.entries;
      off : EachFound (λ u x. R (c, u) x) t f l.fn.entries.entries → EachFound (λ u x. R (c, u) x) t f l.key-iterator;
    }
