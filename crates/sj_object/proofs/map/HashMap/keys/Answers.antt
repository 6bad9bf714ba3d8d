use Rattle.std.proofs.Common.{◌≡◌, ℕ, List, [], ◌∷◌, map, refl, ap, ◌∙◌}
use Rattle.sj_object.specs.Entries.{keys, entries_of}
use Rattle.sj_object.specs.Stored.{pairs_of}
use Rattle.sj_object.proofs.map.HashMap.keys.Goals as goal

keys-entries_of : {K V : Type 0} (t : K → List ℕ) (ps : List (K × V)) → map (λ p. p.0) ps ≡ keys (entries_of t ps)
keys-entries_of t [] = refl
keys-entries_of t (p ∷ ps) = ap (λ l. p.0 ∷ l) (keys-entries_of t ps)

pub returns : goal.returns
returns g c = c.new.ensures ∙ keys-entries_of g.K.KeyText.text_of (pairs_of c.self.inside.store) ∙ ap (λ m. keys m.entries) c.self.view_is
