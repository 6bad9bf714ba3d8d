use Rattle.std.proofs.Common.{rules, ◌≡◌, true, ◌+◌, get_or, ap, arith, sym, subst, Bool, take}
use Rattle.std.specs.Prelude.{◌↔◌, IsTrue}
use Rattle.sj_tape.specs.Value.{tape_tree}
use Rattle.sjroute.specs.Routed.{MeetsAny, MeetsRule, line_to}
use Rattle.sjroute.proofs.Takings.{step-taken, taken-so, taken-not, any-step, any-then, any-else, not-both}
use Rattle.sjroute.proofs.routing.put_met.Goals.{then-is_met+in_ok-put, else-is_met}
use Rattle.sjroute.proofs.routing.put_met.Goals as goal

pub loop-route-preserved : goal.loop-route-preserved
loop-route-preserved c =
    let i = c.loop-route.route-index in
    let rs = c.args.routes.now in
    let qs = c.loop-route.routes in
    let d = c.route-item.result in
    let r = get_or qs i d in
    let t = tape_tree c.args.message in
    let f = line_to c.args.text.now t in
    let at : d ≡ r = search (rules, c.route-item.is) in
    let is : r ≡ get_or qs i r = ap (λ x. get_or qs i x) at in
    let inv = c.loop-route.invariant in
    elim c.if-is_met.branch [
      | then-is_met+in_ok-put w ↦
          let p = c.is_met.ensures.0 w.if-is_met.true in
          let s = step-taken (MeetsRule t) f i rs qs c.if-is_met.routes r w.put.new.self (omega arith) (omega arith) inv.0 inv.1 is
          (taken-so (MeetsRule t) f r w.put.new.self p w.in_ok-put.ensures.ok) w.routes-is in
          let any = any-step t i rs qs r true (omega arith) inv.1 is (any-then t (take i rs) r p) in
          (s.0, s.1, subst (λ (b : Bool). IsTrue b ↔ MeetsAny t (take (i + 1) rs)) (sym w.is_any-is) any)
      | else-is_met w ↦
          let n : MeetsRule t r.takes → ⊥ = λ h. not-both c.is_met.result (c.is_met.ensures.1 h) w.if-is_met.false in
          let s = step-taken (MeetsRule t) f i rs qs c.if-is_met.routes r r (omega arith) (omega arith) inv.0 inv.1 is (taken-not (MeetsRule t) f r n) w.routes-is in
          let any = any-step t i rs qs r c.loop-route.is_any (omega arith) inv.1 is (any-else t (take i rs) r c.loop-route.is_any n inv.2) in
          (s.0, s.1, subst (λ (b : Bool). IsTrue b ↔ MeetsAny t (take (i + 1) rs)) (sym w.is_any-is) any)
    ]
