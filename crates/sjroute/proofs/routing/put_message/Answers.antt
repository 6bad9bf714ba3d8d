use Rattle.std.proofs.Common.{◌≡◌, Bool, true, false, sym, subst, rules}
use Rattle.sj_tape.specs.Value.{tape_tree}
use Rattle.sjroute.specs.Routed.{AllTaken, TakesMessage, line_to}
use Rattle.sjroute.proofs.Takings.{all_met, all_both}
use Rattle.sjroute.proofs.routing.put_message.Goals as goal

pub returns-in_ok-put_unmet-clause-taken : goal.returns-in_ok-put_unmet-clause-taken
returns-in_ok-put_unmet-clause-taken c =
    let t = tape_tree c.args.message in
    let s = c.args.text.now in
    let met : c.in_ok-is_met.is_met ≡ false = search (rules, c.if-not-is_met.true) in
    subst (λ (b : Bool). AllTaken (TakesMessage b t) (line_to s t) c.args.routes.now c.put_unmet.new.routes) (sym met)
    (all_both s t c.args.routes.now c.put_met.new.routes c.put_unmet.new.routes c.in_ok-is_met.ensures.taken c.in_ok-put_unmet.ensures)

pub returns-else-not-is_met-clause-taken : goal.returns-else-not-is_met-clause-taken
returns-else-not-is_met-clause-taken c =
    let t = tape_tree c.args.message in
    let s = c.args.text.now in
    let met : c.in_ok-is_met.is_met ≡ true = search (rules, c.if-not-is_met.false) in
    subst (λ (b : Bool). AllTaken (TakesMessage b t) (line_to s t) c.args.routes.now c.put_met.new.routes) (sym met)
    (all_met s t c.args.routes.now c.put_met.new.routes c.in_ok-is_met.ensures.taken)
