use Rattle.std.proofs.Common.{◌≡◌, map, take, string_bytes}
use Rattle.sj_pointer.proofs.ends.copy_tokens.Given as goal

abbrev pub invariant-loop-token : goal.invariant-loop-token
invariant-loop-token l = map string_bytes l.copies.items ≡ map string_bytes (take l.token-index l.token-items)
