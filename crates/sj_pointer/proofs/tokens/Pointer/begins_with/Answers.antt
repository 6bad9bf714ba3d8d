use Rattle.std.proofs.Common.{◌++◌, length, drop, map, string_bytes, sym, ap, ◌∙◌}
use Rattle.std.specs.List.{starts_with}
use Rattle.std.specs.String.{string_eq}
use Rattle.sj_pointer.proofs.Shown.{begun_tokens}
use Rattle.sj_pointer.proofs.tokens.Pointer.begins_with.Goals as goal

pub returns : goal.returns
returns c =
    let xs = c.self.inside.tokens.items in
    let ns = c.front.inside.tokens.items in
    let b = begun_tokens xs ns c.starts_with.result (c.starts_with.ensures.value ∙ (λ i. starts_with string_eq (c.deref.ensures.value i) (c.deref-2.ensures.value i))) in
    let rest = drop (length (map string_bytes ns)) (map string_bytes xs) in
    (λ h. (rest, sym c.self.view_is ∙ b.0 h ∙ ap (λ l. l ++ rest) c.front.view_is), λ x. b.1 x.0 (c.self.view_is ∙ x.1 ∙ ap (λ l. l ++ x.0) (sym c.front.view_is)))
