use Rattle.std.proofs.Common.{◌≡◌, ◌+◌, ◌-◌, ◌≤◌, ◌++◌, length, take, drop}
use Rattle.std.specs.Vec.{vec_capacity}
use Rattle.sj_object.specs.Holes.{without, AreHoles}
use Rattle.sj_object.proofs.map.holes.close.Given as goal

-- what stands before `to` and from `from` on is what is left of the hashes, once the holes before `from` are closed
abbrev pub invariant-loop-left : goal.invariant-loop-left
invariant-loop-left l = record {
  some : l.left ≤ length l.holes;
  same : take l.to l.hashes.items ++ drop l.from l.hashes.items ≡ drop l.gone (without (drop l.left l.holes) l.fn.hashes.items);
  places : l.to + l.gone + (length l.holes - l.left) ≡ l.from;
  room : l.from ≤ length l.fn.hashes.items;
  holes : AreHoles l.from (take l.left l.holes) (length l.fn.hashes.items);
  size : length l.hashes.items ≡ length l.fn.hashes.items;
  capacity : vec_capacity l.hashes ≡ vec_capacity l.fn.hashes;
}

abbrev pub decreases-loop-left : goal.decreases-loop-left
decreases-loop-left l = l.left
