use Rattle.std.proofs.Common.{refl, sym, ap, ◌∙◌}
use Rattle.sj_object.specs.Edits.{lookup}
use Rattle.sj_object.proofs.Position.{found, absent}
use Rattle.sj_object.proofs.map.HashMap.get_steps.Goals as goal

pub pair-requires : goal.pair-requires
pair-requires g c =
    let f = found g.K.KeyText.text_of c.args.key.now c.in-Some.is c.position_counted.ensures.found c.as_bytes-text.ensures.value refl in
    f.within

pub returns-in-Some-clause-value : goal.returns-in-Some-clause-value
returns-in-Some-clause-value g c =
    let f = found g.K.KeyText.text_of c.args.key.now c.in-Some.is c.position_counted.ensures.found c.as_bytes-text.ensures.value refl in
    sym (f.lookup_at _ c.pair.ensures) ∙ ap (λ m. lookup c.args.key.now m.entries) c.self.view_is

pub returns-in-None-clause-value : goal.returns-in-None-clause-value
returns-in-None-clause-value g c =
    let a = absent g.K.KeyText.text_of c.args.key.now c.in-None.is c.position_counted.ensures.found c.as_bytes-text.ensures.value refl in
    sym a.lookup_none ∙ ap (λ m. lookup c.args.key.now m.entries) c.self.view_is
