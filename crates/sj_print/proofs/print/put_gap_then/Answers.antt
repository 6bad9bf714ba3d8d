use Rattle.sj_print.specs.Outputs.{HoldsText}
use Rattle.sj_print.specs.Layouts.{gap}
use Rattle.sj_print.proofs.Puts.{appends_both}
use Rattle.sj_print.proofs.print.put_gap_then.Goals as goal

pub returns : goal.returns
returns g c s l = appends_both (HoldsText g.O.Output.holds) _ _ _ (gap s) c.args.text.now (c.put_gap.ensures s l) c.put.ensures
