use Rattle.std.proofs.Common.{sym, subst}
use Rattle.sj_print.specs.Outputs.{AppendsText}
use Rattle.sj_print.proofs.Piles.{items_laid-end, items_laid-none}
use Rattle.sj_print.proofs.print.put_items_end.Goals as goal

pub returns-then-is_begun : goal.returns-then-is_begun
returns-then-is_begun g c s l =
    subst (AppendsText g.O.Output.holds c.args.out c.put_gap_then.result) (sym (items_laid-end c.args.is_begun s c.if-is_begun.true)) (c.put_gap_then.ensures s l)

pub returns-else-is_begun : goal.returns-else-is_begun
returns-else-is_begun g c s l =
    subst (AppendsText g.O.Output.holds c.args.out c.put.result) (sym (items_laid-none c.args.is_begun s c.if-is_begun.false)) c.put.ensures
