-- Lines of pieces.
use Rattle.std.specs.Prelude.{◌≡◌, ℕ, List, ◌++◌, Option, Some, None, ⊤}
use Rattle.sj_lines.specs.Lines.{full_lines}

-- where the known bytes were xs and are ys, they are the piece and ys, and the lines of xs are those of the piece and those of ys
abbrev pub SplitsLines : Option (List ℕ) → Option (List ℕ) → List ℕ → Type 0
SplitsLines None new p = ⊤
SplitsLines (Some xs) None p = ⊥
SplitsLines (Some xs) (Some ys) p = (xs ≡ p ++ ys) × (full_lines xs ≡ full_lines p ++ full_lines ys)
