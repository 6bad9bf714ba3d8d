use Rattle.std.proofs.Common.{OnSome, subst}
use Rattle.sj_uses.proofs.counts.replace_through.Goals as goal

pub returns-in-Some-clause-written : goal.returns-in-Some-clause-written
returns-in-Some-clause-written g c =
    let w = c.replace.new.dest in
    let n = c.pointed_mut.follows.lender w in
    subst (λ x. g.L.LendPointed.writes_pointed c.args.lender.now c.args.pointer.now x n) c.replace.ensures.after
    (subst (λ r. OnSome r (g.L.LendPointed.writes_pointed c.args.lender.now c.args.pointer.now w n)) c.in-Some.is (c.pointed_mut.follows.holds w))
