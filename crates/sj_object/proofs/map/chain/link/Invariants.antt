use Rattle.std.proofs.Common.{◌^◌}
use Rattle.sj_object.specs.inner.Chains.{IsLinked}
use Rattle.sj_object.proofs.map.chain.link.Given as goal

abbrev pub invariant-loop-i : goal.invariant-loop-i
invariant-loop-i l = IsLinked (2 ^ l.bits) l.hashes l.links l.heads l.i
