use Rattle.std.proofs.Common.{◌≡◌, ◌-◌, [], drop, All}
use Rattle.sj_tape.specs.Stretches.{nodes_in}
use Rattle.sj_object.specs.Builder.{AreMade}
use Rattle.sj_object.specs.inner.Piles.{pile, taken_pairs, left_pairs, CanTakePairs, kept_by, entry_pairs}
use Rattle.sj_object.proofs.build.take_members.Given as goal

abbrev pub invariant-loop-i : goal.invariant-loop-i
invariant-loop-i g l =
    let tree = g.V.Made.tree in
    let built = g.V.Made.built in
    let n = l.len - l.i in
    record {
      can : CanTakePairs n (drop l.at (nodes_in l.nodes)) (pile tree l.made.items);
      told : kept_by l.repeats (entry_pairs tree (g.V.Map.MapOf.entries l.members)) (taken_pairs n (drop l.at (nodes_in l.nodes)) (pile tree l.made.items)) ≡ kept_by l.repeats [] (taken_pairs l.len (nodes_in l.fn.nodes) (pile tree l.fn.made.items));
      less : left_pairs n (drop l.at (nodes_in l.nodes)) (pile tree l.made.items) ≡ left_pairs l.len (nodes_in l.fn.nodes) (pile tree l.fn.made.items);
      made : All built l.fn.made.items → AreMade g.Key.KeyMade.is_made built (g.V.Map.MapOf.entries l.members) × All built l.made.items;
    }
