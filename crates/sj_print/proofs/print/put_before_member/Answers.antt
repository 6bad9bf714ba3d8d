use Rattle.std.proofs.Common.{◌∷◌, ◌++◌, sym, subst}
use Rattle.sj_text_core.specs.Print.{quoted}
use Rattle.sj_print.specs.Layouts.{gap}
use Rattle.sj_print.specs.inner.Layouts.{key_end}
use Rattle.sj_print.specs.Outputs.{AppendsText}
use Rattle.sj_print.specs.inner.Piles.{members_mark}
use Rattle.sj_print.proofs.print.put_before_member.Goals as goal

pub returns-then-is_begun : goal.returns-then-is_begun
returns-then-is_begun g c s l =
    subst (λ b. AppendsText g.O.Output.holds c.args.out c.put_key.result ((members_mark b ∷ gap s) ++ (quoted (g.P.Parts.key_of c.args.key.now) ++ key_end s))) (sym c.if-is_begun.true) (c.put_key.ensures s l)

pub returns-else-is_begun : goal.returns-else-is_begun
returns-else-is_begun g c s l =
    subst (λ b. AppendsText g.O.Output.holds c.args.out c.put_key-else-is_begun.result ((members_mark b ∷ gap s) ++ (quoted (g.P.Parts.key_of c.args.key.now) ++ key_end s))) (sym c.if-is_begun.false) (c.put_key-else-is_begun.ensures s l)
