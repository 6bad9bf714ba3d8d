use Rattle.std.proofs.Common.{◌≡◌, ◌*◌, take}
use Rattle.sj_text_core.specs.Hash.{hash}
use Rattle.sj_object.proofs.hasher.hash_of_fours.Given as goal

abbrev pub invariant-loop-i : goal.invariant-loop-i
invariant-loop-i l = l.hash ≡ hash (take (4 * l.i) l.bytes)
