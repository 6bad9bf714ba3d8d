use Rattle.std.proofs.Common.{◌≡◌, take, drop}
use Rattle.sj_tape.specs.Value.{tape_tree}
use Rattle.sjroute.specs.Routed.{AllTaken, IsUnmet, line_to}
use Rattle.sjroute.proofs.routing.put_unmet.Given as goal

abbrev pub invariant-loop-route : goal.invariant-loop-route
invariant-loop-route l =
    AllTaken IsUnmet (line_to l.text (tape_tree l.message)) (take l.route-index l.initial.routes) (take l.route-index l.routes)
    × (drop l.route-index l.routes ≡ drop l.route-index l.initial.routes)
