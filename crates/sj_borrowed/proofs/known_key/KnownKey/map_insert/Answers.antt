use Rattle.std.proofs.Common.{◌≡◌, None, refl, sym, ap, ◌∙◌}
use Rattle.std.specs.Cow.{cow_str_bytes}
use Rattle.sj_object.specs.Edits.{lookup, set_value}
use Rattle.sj_borrowed.proofs.Puts.{set_value_put, last_put}
use Rattle.sj_borrowed.proofs.known_key.KnownKey.map_insert.Goals as goal

pub returns-in-Some-clause-entries : goal.returns-in-Some-clause-entries
returns-in-Some-clause-entries c =
    let key = c.args.self.now in
    let es = c.args.map.now.entries in
    let k : c.text.result.now ≡ cow_str_bytes key = c.text.ensures ∙ ap (λ k. cow_str_bytes k) c.key.ensures in (
      key,
      (refl, refl),
      ap (λ w. set_value c.text.result.now w es) c.replace.ensures.after ∙ ap (λ s. set_value s c.args.value es) k
          ∙ set_value_put (key, cow_str_bytes key) c.args.value c.in-Some.place.now es (sym (c.in-Some.ensures.value ∙ ap (λ s. lookup s es) k)),
    )

pub returns-in-Ok-append_hashed-clause-entries : goal.returns-in-Ok-append_hashed-clause-entries
returns-in-Ok-append_hashed-clause-entries c =
    let copy = c.in-Ok.key in
    let es = c.args.map.now.entries in
    let none : lookup (cow_str_bytes copy) es ≡ None = ap (λ s. lookup s es) (c.in-Ok.ensures.text ∙ sym (c.text.ensures ∙ ap (λ k. cow_str_bytes k) c.key.ensures)) ∙ sym c.in_default.ensures.value in
    (copy, c.in-Ok.ensures.copy, c.in-Ok-append_hashed.ensures.entries ∙ last_put (copy, cow_str_bytes copy) c.args.value es none)
