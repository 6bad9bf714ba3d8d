use Rattle.std.proofs.Common.{◌+◌, length}
use Rattle.sj_print.specs.Layouts.{laid, top}
use Rattle.sj_print.proofs.Ends.{counted}
use Rattle.sj_print.proofs.writing.count.Goals as goal

pub returns-clause-ok : goal.returns-clause-ok
returns-clause-ok g c =
    let part = laid (top c.args.pretty) (g.P.Parts.tree_of c.args.value.now) in
    c.end.ensures.ok (c.args.before + length part) (counted _ c.print.result c.args.before part (c.print.ensures (top c.args.pretty) c.top.ensures) c.behind.ensures)

pub returns-clause-err : goal.returns-clause-err
returns-clause-err g c =
    let part = laid (top c.args.pretty) (g.P.Parts.tree_of c.args.value.now) in
    c.end.ensures.err (c.args.before + length part) (counted _ c.print.result c.args.before part (c.print.ensures (top c.args.pretty) c.top.ensures) c.behind.ensures)

pub returns-clause-fits : goal.returns-clause-fits
returns-clause-fits g c =
    let part = laid (top c.args.pretty) (g.P.Parts.tree_of c.args.value.now) in
    c.end.ensures.fits (c.args.before + length part) (counted _ c.print.result c.args.before part (c.print.ensures (top c.args.pretty) c.top.ensures) c.behind.ensures)
