use Rattle.std.proofs.Common.{◌≡◌, map, take, string_bytes}
use Rattle.sj_patch.specs.inner.Noted.{token_meant}
use Rattle.sj_patch.proofs.token.pointer_of.Given as goal

abbrev pub invariant-loop-token : goal.invariant-loop-token
invariant-loop-token l = map string_bytes l.texts.items ≡ map token_meant (take l.token-index l.tokens)
