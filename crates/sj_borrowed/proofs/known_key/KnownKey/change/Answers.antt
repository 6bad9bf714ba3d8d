use Rattle.std.proofs.Common.{OnSome, subst}
use Rattle.std.specs.Cow.{cow_str_bytes}
use Rattle.sj_borrowed.proofs.known_key.KnownKey.change.Goals as goal

pub returns-in-Some-clause-changed : goal.returns-in-Some-clause-changed
returns-in-Some-clause-changed g c =
    let w = c.change.new.value in
    let written = subst (λ r. OnSome r (g.T.KnownKeyTargetMut.writes c.args.target.now (cow_str_bytes c.args.key.now) w (c.lookup_mut.follows.lender w))) c.in-Some.is (c.lookup_mut.follows.holds w) in
    (c.in-Some.value.now, w, c.in-Some.ensures.value, c.change.ensures, written)
