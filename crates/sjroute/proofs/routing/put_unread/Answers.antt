use Rattle.std.proofs.Common.{rules, ◌≡◌, get_or, ap, arith}
use Rattle.sjroute.specs.Routed.{IsUnread, text_to}
use Rattle.sjroute.proofs.Takings.{step-taken, taken-so, taken-not, not-both}
use Rattle.sjroute.proofs.routing.put_unread.Goals.{then-is_unread+in_ok-put_text, else-is_unread}
use Rattle.sjroute.proofs.routing.put_unread.Goals as goal

pub loop-route-preserved : goal.loop-route-preserved
loop-route-preserved c =
    let i = c.loop-route.route-index in
    let rs = c.args.routes.now in
    let qs = c.loop-route.routes in
    let d = c.route-item.result in
    let r = get_or qs i d in
    let f = (text_to c.args.text.now) in
    let at : d ≡ r = search (rules, c.route-item.is) in
    let is : r ≡ get_or qs i r = ap (λ x. get_or qs i x) at in
    let inv = c.loop-route.invariant in
    elim c.if-is_unread.branch [
      | then-is_unread+in_ok-put_text w ↦
          step-taken IsUnread f i rs qs c.if-is_unread.routes r w.put_text.new.self (omega arith) (omega arith) inv.0 inv.1 is
          (taken-so IsUnread f r w.put_text.new.self (c.is_unread.ensures.0 w.if-is_unread.true) w.in_ok-put_text.ensures.ok) w.routes-is
      | else-is_unread w ↦
          let n : IsUnread r.takes → ⊥ = λ h. not-both c.is_unread.result (c.is_unread.ensures.1 h) w.if-is_unread.false in
          step-taken IsUnread f i rs qs c.if-is_unread.routes r r (omega arith) (omega arith) inv.0 inv.1 is (taken-not IsUnread f r n) w.routes-is
    ]
