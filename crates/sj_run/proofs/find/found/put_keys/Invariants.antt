use Rattle.std.proofs.Common.{◌≡◌, [], ◌∷◌, ◌++◌, length}
use Rattle.sj_text_core.specs.Tree.{keys_of, members_from}
use Rattle.sj_text_core.specs.inner.Begun.{IsBegunBy}
use Rattle.sj_run.specs.Shown.{more_texts, text_array}
use Rattle.sj_run.proofs.find.found.put_keys.Given as goal

abbrev pub invariant-loop-key : goal.invariant-loop-key
invariant-loop-key g l =
    let G = g.G.BaseGenerator in
    let left = g.P.Parts.members_left in
    record {
      told : (G.written l.generator ++ more_texts (keys_of (members_from (left l.members)))) ++ 93 ∷ [] ≡ G.written l.fn.generator ++ text_array (keys_of (members_from (left l.fn.members)));
      begun : IsBegunBy (G.written l.fn.generator) (G.written l.generator);
      sink : G.sink l.generator ≡ G.sink l.fn.generator;
    }

abbrev pub decreases-loop-key : goal.decreases-loop-key
decreases-loop-key g l = length (g.P.Parts.members_left l.members)
