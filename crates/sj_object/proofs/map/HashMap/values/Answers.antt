use Rattle.std.proofs.Common.{◌≡◌, ℕ, List, [], ◌∷◌, map, refl, ap, ◌∙◌}
use Rattle.sj_object.specs.Entries.{values, entries_of}
use Rattle.sj_object.specs.Stored.{pairs_of}
use Rattle.sj_object.proofs.map.HashMap.values.Goals as goal

values-entries_of : {K V : Type 0} (t : K → List ℕ) (ps : List (K × V)) → map (λ p. p.1) ps ≡ values (entries_of t ps)
values-entries_of t [] = refl
values-entries_of t (p ∷ ps) = ap (λ l. p.1 ∷ l) (values-entries_of t ps)

pub returns : goal.returns
returns g c = c.new.ensures ∙ values-entries_of g.K.KeyText.text_of (pairs_of c.self.inside.store) ∙ ap (λ m. values m.entries) c.self.view_is
