use Rattle.std.proofs.Common.{OnSome, subst}
use Rattle.sj_uses.proofs.changes.replace_item_through.Goals as goal

pub returns-in-Some-clause-written : goal.returns-in-Some-clause-written
returns-in-Some-clause-written g c =
    let w = c.replace.new.dest in
    let n = c.item_mut.follows.lender w in
    subst (λ x. g.L.LendItem.writes_item c.args.lender.now c.args.index x n) c.replace.ensures.after
    (subst (λ r. OnSome r (g.L.LendItem.writes_item c.args.lender.now c.args.index w n)) c.in-Some.is (c.item_mut.follows.holds w))
