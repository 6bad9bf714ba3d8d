use Rattle.std.proofs.Common.{[], ◌∷◌, length, take, refl, sym, arith}
use Rattle.std.proofs.lemmas.Grind.{common_steps}
use Rattle.std.proofs.lemmas.Str.{IsUtf8-nil}
use Rattle.sj_print.specs.Layouts.{laid, top}
use Rattle.sj_print.proofs.Ends.{front, filled}
use Rattle.sj_print.proofs.writing.fill.Goals as goal

pub returns-clause-bytes : goal.returns-clause-bytes
returns-clause-bytes g c =
    let now = c.args.out.now.items in
    let at = c.args.at in
    let part = laid (top c.args.pretty) (g.P.Parts.tree_of c.args.value.now) in
    let h = (c.print.ensures (top c.args.pretty) c.top.ensures (_, length now, take at now) [] (IsUtf8-nil, (refl, refl, λ e. front at now (omega (arith, c.requires))))).1 in
    let name = sym h.0 in
    let all = filled at now part c.print.result c.requires h.1 h.2 in grind (arith, common_steps, name, all)

pub returns-clause-utf8 : goal.returns-clause-utf8
returns-clause-utf8 g c =
    let now = c.args.out.now.items in
    (c.print.ensures (top c.args.pretty) c.top.ensures (_, length now, 0 ∷ now) [] (IsUtf8-nil, (refl, refl, λ e. absurd (omega (arith, e))))).0
