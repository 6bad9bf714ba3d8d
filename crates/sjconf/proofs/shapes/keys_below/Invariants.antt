use Rattle.std.proofs.Common.{◌≡◌, ℕ, List, take, map, string_bytes}
use Rattle.sjconf.specs.Demands.{is_named, is_one_of}
use Rattle.sjconf.proofs.shapes.keys_below.Given as goal

abbrev pub invariant-loop-other : goal.invariant-loop-other
invariant-loop-other l = (k : List ℕ) → is_one_of k (map string_bytes l.keys.items) ≡ is_named k l.place (take l.other-index l.places)
