use Rattle.std.proofs.Common.{ap, ◌∙◌, is_some}
use Rattle.sj_object.specs.Entries.{entries_of}
use Rattle.sj_object.proofs.Places.{position-pairs, is_some-position}
use Rattle.sj_object.proofs.map.search.has_key_blank.Goals as goal

pub returns : goal.returns
returns g c =
    let t = g.K.KeyText.text_of in
    let k = c.args.text.now in
    let ps = c.args.pairs.now in
    c.is_some.ensures ∙ ap is_some (c.position_in_list.ensures.found ∙ position-pairs t k ps) ∙ is_some-position k (entries_of t ps)
