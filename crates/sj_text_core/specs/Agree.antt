-- Two objects up to a place of the first.
use Rattle.std.specs.Prelude.{ℕ, Bool, List, map, take}
use Rattle.sj_text_core.specs.Tree.{Tree}
use Rattle.sj_text_core.specs.Keep.{is_seen}

-- the texts of pairs
abbrev pub pair_keys : List (List ℕ × Tree) → List (List ℕ)
pair_keys ps = map (λ (p : List ℕ × Tree). p.0) ps

-- whether one of the first n pairs has the text
abbrev pub is_seen_before : ℕ → List ℕ → List (List ℕ × Tree) → Bool
is_seen_before n k ps = is_seen k (pair_keys (take n ps))
