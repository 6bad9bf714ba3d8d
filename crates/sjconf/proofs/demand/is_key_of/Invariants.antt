use Rattle.std.proofs.Common.{◌≡◌, length, map, string_bytes}
use Rattle.sjconf.specs.Demands.{is_one_of}
use Rattle.sjconf.proofs.demand.is_key_of.Given as goal

abbrev pub invariant-loop-rest : goal.invariant-loop-rest
invariant-loop-rest l = is_one_of l.key (map string_bytes l.rest) ≡ is_one_of l.key (map string_bytes l.keys)

abbrev pub decreases-loop-rest : goal.decreases-loop-rest
decreases-loop-rest l = length l.rest
