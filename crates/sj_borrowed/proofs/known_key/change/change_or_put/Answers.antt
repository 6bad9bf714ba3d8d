use Rattle.std.proofs.Common.{◌≡◌, Some, sym, ap, ◌∙◌, subst}
use Rattle.std.specs.Cow.{cow_str_bytes}
use Rattle.sj_object.specs.Edits.{lookup, with_value}
use Rattle.sj_object.proofs.Added.{if_some}
use Rattle.sj_borrowed.proofs.Puts.{made_put, added_value}
use Rattle.sj_borrowed.proofs.known_key.change.change_or_put.Goals as goal

pub returns-in-Some-clause-present : goal.returns-in-Some-clause-present
returns-in-Some-clause-present g c =
    let m = c.args.map.now in
    let w = c.change.new.value in
    let same = c.text.ensures ∙ ap (λ x. cow_str_bytes x) c.key.ensures in
    if_some _ (lookup (cow_str_bytes c.args.key.now) m.entries) c.in-Some.place.now (c.in-Some.ensures.value ∙ ap (λ s. lookup s m.entries) same) (w, c.change.ensures, ap (λ s. with_value m s w) same)

pub returns-in-Ok-append_hashed-clause-absent : goal.returns-in-Ok-append_hashed-clause-absent
returns-in-Ok-append_hashed-clause-absent g c =
    let k = cow_str_bytes c.args.key.now in
    let es = c.args.map.now.entries in
    let w = c.change-in-Ok-append_hashed.new.value in
    let text = g.K.KeyText.text_of c.in-Ok.copy in
    let v = c.args.value in
    let n = c.len-last.result in
    let fs = c.append_hashed.new.self.entries in
    λ none.
    let is : Some v ≡ Some c.value_at_mut.result.now = sym (added_value k c.in-Ok.copy w text v n es fs c.in-Ok.ensures.text c.len-last.ensures c.in-Ok-append_hashed.ensures.entries none) ∙ c.value_at_mut.ensures.value in
    let same : c.value_at_mut.result.now ≡ v = cc in (
      w,
      subst (λ x. g.C.Change.makes c.args.change x w c.change-in-Ok-append_hashed.result) same c.change-in-Ok-append_hashed.ensures,
      (c.in-Ok.copy, made_put k c.in-Ok.copy w text v n es fs c.in-Ok.ensures.text c.len-last.ensures c.in-Ok-append_hashed.ensures.entries none),
    )
