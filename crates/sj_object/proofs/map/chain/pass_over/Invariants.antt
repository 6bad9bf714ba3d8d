use Rattle.std.proofs.Common.{◌≡◌, ◌<◌, ◌≤◌, ◌^◌, length}
use Rattle.sj_object.specs.Holes.{raised_by, without}
use Rattle.sj_object.specs.inner.Holes.{lowered_by}
use Rattle.sj_object.proofs.Chains.{IsAbove}
use Rattle.sj_object.proofs.map.chain.pass_over.Given as goal

-- the walk stands at a place of a member that is there
abbrev pub invariant-loop-above : goal.invariant-loop-above
invariant-loop-above l = record {
  some : 0 < l.above;
  within : l.above ≤ length l.hashes;
  there : l.above ≡ raised_by l.holes (lowered_by l.holes l.above);
  stands : IsAbove (2 ^ l.bits) (without l.holes l.hashes) l.position (lowered_by l.holes l.above);
}

abbrev pub decreases-loop-above : goal.decreases-loop-above
decreases-loop-above l = l.above
