use Rattle.std.proofs.Common.{refl, sym, ap, ◌∙◌, subst, IsSome}
use Rattle.sj_object.specs.Edits.{lookup}
use Rattle.sj_object.proofs.Position.{found, absent}
use Rattle.sj_object.proofs.map.HashMap.find.Goals as goal

pub pair-requires : goal.pair-requires
pair-requires g c =
    let f = found g.K.KeyText.text_of c.args.key.now c.in-Some.is c.position_here.ensures refl refl in
    f.within

pub returns-in-Some : goal.returns-in-Some
returns-in-Some g c =
    let f = found g.K.KeyText.text_of c.args.key.now c.in-Some.is c.position_here.ensures refl refl in
    sym (f.lookup_at _ c.pair.ensures) ∙ ap (λ m. lookup c.args.key.now m.entries) c.self.view_is

pub returns-in-None : goal.returns-in-None
returns-in-None g c =
    let a = absent g.K.KeyText.text_of c.args.key.now c.in-None.is c.position_here.ensures refl refl in
    sym a.lookup_none ∙ ap (λ m. lookup c.args.key.now m.entries) c.self.view_is

pub position_here-requires-clause-hash : goal.position_here-requires-clause-hash
position_here-requires-clause-hash g c = λ l. c.requires (subst (λ m. IsSome m.buckets) c.self.view_is l) ∙ ap (λ m. g.S.KeyHasher.hash_of m.hasher c.args.key.now) (sym c.self.view_is)
