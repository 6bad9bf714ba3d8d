use Rattle.std.proofs.Common.{◌≡◌, None, is_some, true≢false, sym, ap, ◌∙◌}
use Rattle.std.specs.Cow.{cow_str_bytes}
use Rattle.sj_object.specs.Edits.{lookup, position}
use Rattle.sj_object.proofs.Places.{is_some-position}
use Rattle.sj_borrowed.proofs.Puts.{made_place, made_put}
use Rattle.sj_borrowed.proofs.known_key.or_insert.place_or_put.Goals as goal

pub returns-in-Some-clause-made : goal.returns-in-Some-clause-made
returns-in-Some-clause-made g c =
    let k = cow_str_bytes c.args.key.now in
    let es = c.args.members.now.entries in
    let same = c.text.ensures ∙ ap (λ x. cow_str_bytes x) c.key.ensures in
    λ h. absurd (true≢false (ap is_some (c.in-Some.ensures.found ∙ ap (λ s. position s es) same) ∙ is_some-position k es ∙ ap is_some h))

pub returns-in-Ok-append_hashed-clause-placed : goal.returns-in-Ok-append_hashed-clause-placed
returns-in-Ok-append_hashed-clause-placed g c =
    let k = cow_str_bytes c.args.key.now in
    let es = c.args.members.now.entries in
    let same = c.text.ensures ∙ ap (λ x. cow_str_bytes x) c.key.ensures in
    let absent : lookup k es ≡ None = ap (λ s. lookup s es) (sym same) ∙ c.position_hashed.ensures.absent c.in_default.is in
    made_place k c.in-Ok.copy c.with.result (cow_str_bytes c.in-Ok.copy) _ c.len-last.result es c.append_hashed.new.self.entries c.in-Ok.ensures.text c.len-last.ensures c.in-Ok-append_hashed.ensures.entries absent

pub returns-in-Ok-append_hashed-clause-made : goal.returns-in-Ok-append_hashed-clause-made
returns-in-Ok-append_hashed-clause-made g c =
    let k = cow_str_bytes c.args.key.now in
    let es = c.args.members.now.entries in
    λ absent. (
      c.in-Ok.copy,
      c.with.result,
      c.in-Ok.ensures.copy,
      c.with.ensures,
      made_put k c.in-Ok.copy c.with.result (cow_str_bytes c.in-Ok.copy) _ c.len-last.result es c.append_hashed.new.self.entries c.in-Ok.ensures.text c.len-last.ensures c.in-Ok-append_hashed.ensures.entries absent,
    )
