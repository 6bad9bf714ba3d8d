-- The members of a map in order.
use Rattle.std.specs.Prelude.{ℕ, List, map}

-- a key with its text, and a value
abbrev pub Entry : Type 0 → Type 0 → Type 0
Entry K V = (K × List ℕ) × V

abbrev pub entry_texts : {K V : Type 0} → List (Entry K V) → List (List ℕ)
entry_texts es = map (λ e. e.0.1) es

abbrev pub keys : {K V : Type 0} → List (Entry K V) → List K
keys es = map (λ e. e.0.0) es

abbrev pub values : {K V : Type 0} → List (Entry K V) → List V
values es = map (λ e. e.1) es

-- the entries of pairs, where t gives the text of a key
abbrev pub entries_of : {K V : Type 0} → (K → List ℕ) → List (K × V) → List (Entry K V)
entries_of t ps = map (λ p. ((p.0, t p.0), p.1)) ps
