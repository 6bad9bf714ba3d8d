use Rattle.std.proofs.Common.{OnSome, subst}
use Rattle.std.specs.Cow.{cow_str_bytes}
use Rattle.sj_borrowed.proofs.known_key.KnownKey.replace.Goals as goal

pub returns-in-Some-clause-written : goal.returns-in-Some-clause-written
returns-in-Some-clause-written g c =
    let w = c.replace.new.dest in
    let n = c.lookup_mut.follows.lender w in
    let k = cow_str_bytes c.args.key.now in
    subst (λ x. g.T.KnownKeyTargetMut.writes c.args.target.now k x n) c.replace.ensures.after
    (subst (λ r. OnSome r (g.T.KnownKeyTargetMut.writes c.args.target.now k w n)) c.in-Some.is (c.lookup_mut.follows.holds w))
