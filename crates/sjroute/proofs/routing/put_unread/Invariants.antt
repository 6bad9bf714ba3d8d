use Rattle.std.proofs.Common.{◌≡◌, take, drop}
use Rattle.sjroute.specs.Routed.{AllTaken, IsUnread, text_to}
use Rattle.sjroute.proofs.routing.put_unread.Given as goal

abbrev pub invariant-loop-route : goal.invariant-loop-route
invariant-loop-route l =
    AllTaken IsUnread (text_to l.text) (take l.route-index l.initial.routes) (take l.route-index l.routes)
    × (drop l.route-index l.routes ≡ drop l.route-index l.initial.routes)
