use Rattle.std.proofs.Common.{◌≡◌, take, drop, IsTrue}
use Rattle.std.specs.Prelude.{◌↔◌}
use Rattle.sj_tape.specs.Value.{tape_tree}
use Rattle.sjroute.specs.Routed.{AllTaken, MeetsAny, MeetsRule, line_to}
use Rattle.sjroute.proofs.routing.put_met.Given as goal

abbrev pub invariant-loop-route : goal.invariant-loop-route
invariant-loop-route l =
    AllTaken (MeetsRule (tape_tree l.message)) (line_to l.text (tape_tree l.message)) (take l.route-index l.initial.routes) (take l.route-index l.routes)
    × (drop l.route-index l.routes ≡ drop l.route-index l.initial.routes)
    × (IsTrue l.is_any ↔ MeetsAny (tape_tree l.message) (take l.route-index l.initial.routes))
