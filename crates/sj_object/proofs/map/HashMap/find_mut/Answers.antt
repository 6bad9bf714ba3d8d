use Rattle.std.proofs.Common.{◌≡◌, sym, ap, ◌∙◌, refl, length, arith, subst, IsSome}
use Rattle.sj_object.specs.Entries.{entries_of}
use Rattle.sj_object.specs.HashMap.{same_contents}
use Rattle.sj_object.specs.Edits.{lookup, nth_value, set_value, set_value_at}
use Rattle.sj_object.specs.Stored.{pairs_of}
use Rattle.sj_object.proofs.Position.{found, absent}
use Rattle.sj_object.proofs.Hashed.{entries-length, same_inside}
use Rattle.sj_object.proofs.Lent.{lent_same}
use Rattle.sj_object.proofs.map.HashMap.find_mut.Goals as goal

pub same-self : goal.same-self
same-self g c = same_inside c.self.inside _ _

pub same-self-in-None : goal.same-self-in-None
same-self-in-None g c = same_inside c.self.inside _ _

pub value_at_mut-requires : goal.value_at_mut-requires
value_at_mut-requires g c =
    let t = g.K.KeyText.text_of in
    let f = found t c.args.key.now c.in-Some.is c.position_of.ensures refl refl in
    let n : length (entries_of t (pairs_of c.self.inside.store)) ≡ length c.args.self.now.entries = ap (λ v. length v.entries) c.self.view_is in
    omega (arith, f.within, n, entries-length t (pairs_of c.self.inside.store))

pub returns-in-Some : goal.returns-in-Some
returns-in-Some g c =
    let t = g.K.KeyText.text_of in
    let k = c.args.key.now in
    let i = c.in-Some.i in
    let f = found t k c.in-Some.is c.position_of.ensures refl refl in (
      lent_same _ _ _ (λ w. same_contents _ _ (λ j. (
        (ap (λ v. set_value_at i w v.entries) (sym c.self.view_is) ∙ f.set_there w ∙ ap (λ v. set_value k w v.entries) c.self.view_is) j,
        (c.args.self.now.hasher, c.args.self.now.buckets),
      ))),
      sym c.value_at_mut.ensures.value ∙ ap (λ v. nth_value i v.entries) (sym c.self.view_is) ∙ f.value_there ∙ ap (λ v. lookup k v.entries) c.self.view_is,
    )

pub returns-in-None : goal.returns-in-None
returns-in-None g c =
    let k = c.args.key.now in
    let a = absent g.K.KeyText.text_of k c.in-None.is c.position_of.ensures refl refl in
    (refl, sym a.lookup_none ∙ ap (λ m. lookup k m.entries) c.self.view_is)

pub position_of-requires-clause-hash : goal.position_of-requires-clause-hash
position_of-requires-clause-hash g c = λ l. c.requires (subst (λ m. IsSome m.buckets) c.self.view_is l) ∙ ap (λ m. g.S.KeyHasher.hash_of m.hasher c.args.key.now) (sym c.self.view_is)
