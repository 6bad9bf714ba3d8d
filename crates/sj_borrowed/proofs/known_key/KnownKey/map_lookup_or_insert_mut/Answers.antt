use Rattle.std.proofs.Common.{◌≡◌, Some, refl, sym, ap, ◌∙◌, subst}
use Rattle.std.specs.Cow.{cow_str_bytes}
use Rattle.sj_object.specs.Edits.{lookup, position}
use Rattle.sj_object.proofs.Places.{place_found, with_value-place}
use Rattle.sj_borrowed.specs.Loans.{IsInserted}
use Rattle.sj_borrowed.proofs.Inserted.{not_both, if_there, there_too, inserted_there}
use Rattle.sj_borrowed.proofs.known_key.KnownKey.map_lookup_or_insert_mut.Goals as goal

pub returns-in-Some : goal.returns-in-Some
returns-in-Some g c =
    let Copied = g.K.StoredKey.is_copy c.args.key.now in
    let k = cow_str_bytes c.args.key.now in
    let s = c.text.result.now in
    let m = c.args.map.now in
    let v = c.value_at_mut.result.now in
    let i = c.in-Some.position in
    let same = c.text.ensures ∙ ap (λ x. cow_str_bytes x) c.key.ensures in
    let place : position s m.entries ≡ Some i = sym c.position_hashed.ensures.found ∙ c.in-Some.is in
    let there : Some v ≡ lookup s m.entries = sym c.value_at_mut.ensures.value ∙ (place_found s m.entries i place).value in
    let at = there_too Copied k s m v same there in (
      (refl, λ w e. subst (λ n. IsInserted Copied k m n w) (sym (with_value-place s m i w place)) (inserted_there Copied k s m v same there w), tt),
      record { writes_back = tt; found = if_there _ v at; made = λ h. absurd (not_both _ v at h); succeeds = λ h. refl },
    )
