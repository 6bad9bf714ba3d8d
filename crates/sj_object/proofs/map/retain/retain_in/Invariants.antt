use Rattle.std.proofs.Common.{◌-◌, length}
use denote.Param.Always.{always_mut}
use Rattle.std.specs.Map.Calls.{CalledAtPair}
use Rattle.sj_object.proofs.Retained.{IsRetaining}
use Rattle.sj_object.proofs.map.retain.retain_in.Given as goal

abbrev pub invariant-loop : goal.invariant-loop
invariant-loop g l = always_mut g.F.FnMut l.keep × IsRetaining (CalledAtPair g.F.FnMut) l.initial.keep l.initial.ring.items l.keep l.ring.items (length l.initial.ring.items - l.counter)
