use Rattle.std.proofs.Common.{◌∷◌, sym, subst}
use Rattle.sj_print.specs.Layouts.{gap}
use Rattle.sj_print.specs.Outputs.{AppendsText}
use Rattle.sj_print.specs.inner.Piles.{items_mark}
use Rattle.sj_print.proofs.print.put_before_item.Goals as goal

pub returns-then-is_begun : goal.returns-then-is_begun
returns-then-is_begun g c s l =
    subst (λ b. AppendsText g.O.Output.holds c.args.out c.put_then_gap.result (items_mark b ∷ gap s)) (sym c.if-is_begun.true) (c.put_then_gap.ensures s l)

pub returns-else-is_begun : goal.returns-else-is_begun
returns-else-is_begun g c s l =
    subst (λ b. AppendsText g.O.Output.holds c.args.out c.put_then_gap-else-is_begun.result (items_mark b ∷ gap s)) (sym c.if-is_begun.false) (c.put_then_gap-else-is_begun.ensures s l)
