use Rattle.std.proofs.Common.{sym, subst}
use Rattle.sj_print.specs.Layouts.{gap}
use Rattle.sj_print.specs.Outputs.{Lays}
use Rattle.sj_print.proofs.Layouts.{lays_gap}
use Rattle.sj_print.proofs.output.Output.put_gap.Goals as goal

pub returns-in-Pretty : goal.returns-in-Pretty
returns-in-Pretty g c =
    subst (λ l. Lays g.Self.Output.holds c.args.self c.put_line.result l gap) (sym c.in-Pretty.is)
    (lays_gap g.Self.Output.holds _ _ c.in-Pretty.spaces c.put_line.ensures)
