use Rattle.std.proofs.Common.{◌≡◌, ◌+◌, ◌*◌, take}
use Rattle.sj_text_core.specs.Hash.{hash}
use Rattle.sj_object.proofs.hasher.NotSoRandomStateKeyHasher.hash_text.Given as goal

abbrev pub invariant-loop-byte : goal.invariant-loop-byte
invariant-loop-byte l = l.hash ≡ hash (take (4 * l.fours + l.byte-index) l.text)
