use Rattle.std.proofs.Common.{ℕ, List, map}
use Rattle.sj_tape.specs.Members.{members, keys_ahead}
use Rattle.sj_text_core.specs.Tree.{Tree, paired}
use Rattle.sj_document.specs.inner.SameWith.{HasKeys}
use Rattle.sj_lazy.proofs.value.cmp.map.tape_has_keys.Given as goal

abbrev pub invariant-loop-key : goal.invariant-loop-key
invariant-loop-key g l =
    let t = g.K.KeyText.text_of in
    let keys = map (λ (p : List ℕ × Tree). p.0) (paired (members l.fn.object)) in
    record {
      on : HasKeys t (keys_ahead l.key-iterator) l.entries.entries → HasKeys t keys l.entries.entries;
      off : HasKeys t keys l.entries.entries → HasKeys t (keys_ahead l.key-iterator) l.entries.entries;
    }
