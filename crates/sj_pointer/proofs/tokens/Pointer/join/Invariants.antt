use Rattle.std.proofs.Common.{◌≡◌, ◌++◌, map, take, string_bytes}
use Rattle.sj_pointer.proofs.tokens.Pointer.join.Given as goal

abbrev pub invariant-loop-token : goal.invariant-loop-token
invariant-loop-token l = map string_bytes l.tokens.items ≡ l.self ++ map string_bytes (take l.token-index l.token-items)
