use Rattle.std.proofs.Common.{◌++◌, sym, subst}
use Rattle.sj_text_core.specs.Print.{quoted}
use Rattle.sj_print.specs.Layouts.{gap}
use Rattle.sj_print.specs.inner.Layouts.{key_end}
use Rattle.sj_print.specs.Outputs.{Lays}
use Rattle.sj_print.proofs.Layouts.{lays_key_compact, lays_key_pretty}
use Rattle.sj_print.proofs.print.put_key.Goals as goal

pub returns-in-Compact : goal.returns-in-Compact
returns-in-Compact g c =
    subst (λ l. Lays g.O.Output.holds c.args.out c.put_text_of.result l (λ s. (c.args.mark.now ++ gap s) ++ (quoted (g.P.Parts.key_of c.args.key.now) ++ key_end s))) (sym c.in-Compact.is)
    (lays_key_compact g.O.Output.holds _ _ c.args.mark.now c.args.marked.now (g.P.Parts.key_of c.args.key.now) c.requires c.put_text_of.ensures)

pub returns-in-Pretty : goal.returns-in-Pretty
returns-in-Pretty g c =
    subst (λ l. Lays g.O.Output.holds c.args.out c.put_text_of-in-Pretty.result l (λ s. (c.args.mark.now ++ gap s) ++ (quoted (g.P.Parts.key_of c.args.key.now) ++ key_end s))) (sym c.in-Pretty.is)
    (lays_key_pretty g.O.Output.holds _ _ _ c.in-Pretty.spaces c.args.mark.now (g.P.Parts.key_of c.args.key.now)
    (subst (λ l. Lays g.O.Output.holds c.args.out c.put_then_gap.result l (λ s. c.args.mark.now ++ gap s)) c.in-Pretty.is c.put_then_gap.ensures) c.put_text_of-in-Pretty.ensures)
