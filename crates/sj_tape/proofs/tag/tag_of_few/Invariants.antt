use Rattle.std.proofs.Common.{◌≡◌, take}
use Rattle.sj_text_core.specs.Hash.{hash}
use Rattle.sj_tape.proofs.tag.tag_of_few.Given as goal

abbrev pub invariant-loop-byte : goal.invariant-loop-byte
invariant-loop-byte l = l.sum ≡ hash (take l.byte-index l.text)
