-- What private clauses alone cite beside Shown.
use Rattle.std.specs.Prelude.{ℕ, ◌==◌, List, [], ◌∷◌, if◌then◌else◌}
use Rattle.std.specs.List.{flat_map}

-- a text with each tilde escaped, and no slash
abbrev pub tildes_text : List ℕ → List ℕ
tildes_text k = flat_map (λ c. if c == 126 then 126 ∷ 48 ∷ [] else c ∷ []) k
