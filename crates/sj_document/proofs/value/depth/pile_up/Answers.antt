use Rattle.std.proofs.Common.{◌+◌, arith}
use Rattle.sj_document.specs.inner.Reach.{ahead_weight}
use Rattle.sj_document.proofs.Reach.{reached_up}
use Rattle.sj_document.proofs.value.depth.pile_up.Goals as goal

pub returns : goal.returns
returns g c =
    let items = g.P.Parts.items_left in
    let members = g.P.Parts.members_left in
    reached_up items members c.args.levels c.args.pile.now.items c.push.new.self.items c.args.ahead (2 + ahead_weight items members c.args.ahead)
    (omega (arith, c.requires, c.len.ensures, c.if-len-levels.false)) c.in_ok-push.ensures.items (omega arith)
