use Rattle.sj_object.specs.Edits.{lookup}
use Rattle.sj_document.specs.inner.SameWith.{EachFound}
use Rattle.sj_document.proofs.value.cmp.others.same_entries.Given as goal

abbrev pub invariant-loop-key : goal.invariant-loop-key
invariant-loop-key g l =
    let R = g.X.SameWith.same_with in
    let t = g.K.KeyText.text_of in
    record {
      can : (goal.iterator-loop-key g).can_next l.key-iterator;
      ends : (goal.iterator-loop-key g).is_finite l.key-iterator;
      on : EachFound R t (λ k. lookup k l.members.entries) l.key-iterator → EachFound R t (λ k. lookup k l.members.entries) l.fn.map.entries;
      off : EachFound R t (λ k. lookup k l.members.entries) l.fn.map.entries → EachFound R t (λ k. lookup k l.members.entries) l.key-iterator;
    }
