use Rattle.std.proofs.Common.{◌≡◌, ◌-◌, ◌++◌, map, drop, All}
use Rattle.sj_tape.specs.Stretches.{nodes_in}
use Rattle.sj_object.specs.inner.Piles.{pile, taken, trees_left, CanTakeItems}
use Rattle.sj_object.proofs.build.take_items.Given as goal

abbrev pub invariant-loop-i : goal.invariant-loop-i
invariant-loop-i g l =
    let tree = g.V.Made.tree in
    let built = g.V.Made.built in
    let n = l.len - l.i in
    record {
      can : CanTakeItems n (drop l.at (nodes_in l.nodes)) (pile tree l.made.items);
      told : map tree l.items.items ++ taken n (drop l.at (nodes_in l.nodes)) (pile tree l.made.items) ≡ taken l.len (nodes_in l.fn.nodes) (pile tree l.fn.made.items);
      less : trees_left n (drop l.at (nodes_in l.nodes)) (pile tree l.made.items) ≡ trees_left l.len (nodes_in l.fn.nodes) (pile tree l.fn.made.items);
      made : All built l.fn.made.items → All built l.items.items × All built l.made.items;
    }
