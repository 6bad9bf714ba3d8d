use Rattle.std.proofs.Common.{◌≡◌, ◌++◌, length, map, string_bytes}
use denote.Text.{Utf8}
use denote.Shadow.{shadow}
use Rattle.sj_pointer.specs.Tokens.{decoded, parted}
use Rattle.sj_pointer.proofs.parse.decode_all.Given as goal

abbrev pub invariant-loop-token : goal.invariant-loop-token
invariant-loop-token l = shadow (Utf8 l.rest) × (map string_bytes l.tokens.items ++ map decoded (parted l.rest) ≡ map decoded (parted l.text))

abbrev pub decreases-loop-token : goal.decreases-loop-token
decreases-loop-token l = length l.rest
