use Rattle.std.proofs.Common.{◌≡◌, ◌≤◌, ◌+◌, drop}
use Rattle.sjconf.specs.Demands.{characters}
use Rattle.sjconf.proofs.demand.count_characters.Given as goal

abbrev pub invariant-loop-byte : goal.invariant-loop-byte
invariant-loop-byte l = (l.count + characters (drop l.byte-index l.byte-items) ≡ characters l.text) × (l.count ≤ l.byte-index)
