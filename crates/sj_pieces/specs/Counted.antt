-- The pieces of an input, and the lines in front of them.
use Rattle.std.specs.Prelude.{◌≡◌, ℕ, ◌+◌, List, length}
use Rattle.sj_lines.specs.Lines.{full_lines}
use Rattle.sj_pieces.specs.declared.counted.Pieces.{Pieces}

-- what is read from
abbrev pub reader_of : {R : Type 0} → Pieces R → R
reader_of p = p.reader

-- how many lines are in front of the piece
abbrev pub lines_before : {R : Type 0} → Pieces R → ℕ
lines_before p = p.before

-- how many lines the piece has
abbrev pub lines_of : {R : Type 0} → Pieces R → ℕ
lines_of p = p.count

-- a piece p is behind those before it, and its lines are counted
abbrev pub GoesOn : {R : Type 0} → Pieces R → Pieces R → List ℕ → Type 0
GoesOn old new p = (lines_before new ≡ lines_before old + lines_of old) × (lines_of new ≡ length (full_lines p))

-- nothing was read: the piece p stands as it was
abbrev pub IsAsBefore : {R : Type 0} → Pieces R → List ℕ → Pieces R → List ℕ → Type 0
IsAsBefore old p new q = (lines_before new ≡ lines_before old) × (lines_of new ≡ lines_of old) × (q ≡ p)
