use Rattle.std.proofs.Common.{sym, ap, ◌∙◌}
use Rattle.sj_object.specs.Edits.{position}
use Rattle.sj_object.specs.Stored.{pairs_of}
use Rattle.sj_object.proofs.Places.{position-pairs, placed_within, place_none}
use Rattle.sj_object.proofs.map.HashMap.index_of.Goals as goal

pub returns : goal.returns
returns g c =
    let t = g.K.KeyText.text_of in
    let k = c.args.key.now in
    let es = c.args.self.now.entries in
    let found = c.position_of.ensures ∙ position-pairs t k (pairs_of c.self.inside.store) ∙ ap (λ m. position k m.entries) c.self.view_is in
    record { found = found; within = placed_within k es c.position_of.result found; absent = λ e. place_none k es (sym found ∙ e) }
