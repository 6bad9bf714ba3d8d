use Rattle.std.proofs.Common.{◌≡◌, length, map, string_bytes}
use Rattle.sjconf.specs.Demands.{next_of}
use Rattle.sjconf.proofs.shapes.next_token.Given as goal

abbrev pub invariant-loop-front : goal.invariant-loop-front
invariant-loop-front l = next_of (map string_bytes l.front) (map string_bytes l.rest) ≡ next_of (map string_bytes l.place) (map string_bytes l.tokens)

abbrev pub decreases-loop-front : goal.decreases-loop-front
decreases-loop-front l = length l.front
