-- How many members a lookup compares.
use Rattle.std.specs.Prelude.{ℕ, suc, ◌%◌, ◌==◌, if◌then◌else◌, List, [], ◌∷◌, bytes_eq, count_by}
use Rattle.sj_text_core.specs.Keep.{is_seen}
use Rattle.sj_object.specs.Entries.{Entry, entry_texts}

module _ {K V : Type 0} where
  -- the entries up to the first with the text; all where there is none
  abbrev pub entries_visited : List ℕ → List (Entry K V) → ℕ
  entries_visited k [] = 0
  entries_visited k (e ∷ es) = if bytes_eq k e.0.1 then 1 else suc (entries_visited k es)

  -- the entries from the first with the text on
  abbrev pub found_on : List ℕ → List (Entry K V) → List (Entry K V)
  found_on k [] = []
  found_on k (e ∷ es) = if bytes_eq k e.0.1 then e ∷ es else found_on k es

  -- how many entries share the text's bucket of n, where h gives the hash of a text
  abbrev pub chain : (List ℕ → ℕ) → ℕ → List ℕ → List (Entry K V) → ℕ
  chain h n k es = count_by (λ (e : Entry K V). h e.0.1 % n == h k % n) es

  -- how many of these stand at or after the entry with the text; all where there is none
  abbrev pub walk : (List ℕ → ℕ) → ℕ → List ℕ → List (Entry K V) → ℕ
  walk h n k es = chain h n k (if is_seen k (entry_texts es) then found_on k es else es)
