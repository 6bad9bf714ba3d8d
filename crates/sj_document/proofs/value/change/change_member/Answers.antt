use Rattle.std.proofs.Common.{OnSome, subst}
use Rattle.sj_document.proofs.value.change.change_member.Goals as goal

pub returns-in-Some-clause-changed : goal.returns-in-Some-clause-changed
returns-in-Some-clause-changed g c =
    let w = c.change.new.value in
    let written = subst (λ r. OnSome r (g.L.LendMember.writes_member c.args.target.now c.args.key.now w (c.member_mut.follows.lender w))) c.in-Some.is (c.member_mut.follows.holds w) in
    (c.in-Some.value.now, w, c.in-Some.ensures.value, c.change.ensures, written)
