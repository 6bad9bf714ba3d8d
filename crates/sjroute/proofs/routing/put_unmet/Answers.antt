use Rattle.std.proofs.Common.{rules, ◌≡◌, get_or, ap, arith}
use Rattle.sj_tape.specs.Value.{tape_tree}
use Rattle.sjroute.specs.Routed.{IsUnmet, line_to}
use Rattle.sjroute.proofs.Takings.{step-taken, taken-so, taken-not, not-both}
use Rattle.sjroute.proofs.routing.put_unmet.Goals.{then-is_unmet+in_ok-put, else-is_unmet}
use Rattle.sjroute.proofs.routing.put_unmet.Goals as goal

pub loop-route-preserved : goal.loop-route-preserved
loop-route-preserved c =
    let i = c.loop-route.route-index in
    let rs = c.args.routes.now in
    let qs = c.loop-route.routes in
    let d = c.route-item.result in
    let r = get_or qs i d in
    let f = (line_to c.args.text.now (tape_tree c.args.message)) in
    let at : d ≡ r = search (rules, c.route-item.is) in
    let is : r ≡ get_or qs i r = ap (λ x. get_or qs i x) at in
    let inv = c.loop-route.invariant in
    elim c.if-is_unmet.branch [
      | then-is_unmet+in_ok-put w ↦
          step-taken IsUnmet f i rs qs c.if-is_unmet.routes r w.put.new.self (omega arith) (omega arith) inv.0 inv.1 is
          (taken-so IsUnmet f r w.put.new.self (c.is_unmet.ensures.0 w.if-is_unmet.true) w.in_ok-put.ensures.ok) w.routes-is
      | else-is_unmet w ↦
          let n : IsUnmet r.takes → ⊥ = λ h. not-both c.is_unmet.result (c.is_unmet.ensures.1 h) w.if-is_unmet.false in
          step-taken IsUnmet f i rs qs c.if-is_unmet.routes r r (omega arith) (omega arith) inv.0 inv.1 is (taken-not IsUnmet f r n) w.routes-is
    ]
