-- The lines of an input, and their texts.
use Rattle.std.specs.Prelude.{ℕ, suc, List, [], ◌∷◌, ◌==◌, if◌then◌else◌, map, filter, not}
use Rattle.sj_text_core.specs.Ascii.{line_feed, carriage_return}
use Rattle.sj_text_core.specs.Places.{is_empty}

-- the bytes with c in front of the first line
abbrev pub onto_line : ℕ → List (List ℕ) → List (List ℕ)
onto_line c [] = (c ∷ []) ∷ []
onto_line c (l ∷ ls) = (c ∷ l) ∷ ls

-- the lines, each with its line feed
abbrev pub full_lines : List ℕ → List (List ℕ)
full_lines [] = []
full_lines (c ∷ b) = if c == line_feed then (c ∷ []) ∷ full_lines b else onto_line c (full_lines b)

-- without one byte c at the end
abbrev pub without_end : ℕ → List ℕ → List ℕ
without_end c [] = []
without_end c (x ∷ []) = if x == c then [] else x ∷ []
without_end c (x ∷ y ∷ b) = x ∷ without_end c (y ∷ b)

-- a line without its line feed, and without one carriage return in front of that
abbrev pub line_text : List ℕ → List ℕ
line_text l = without_end carriage_return (without_end line_feed l)

-- the texts of the lines that have one
abbrev pub line_texts : List (List ℕ) → List (List ℕ)
line_texts ls = filter (λ l. not (is_empty l)) (map line_text ls)

-- the lines that have a text, by their numbers; n is the number of the first
abbrev pub numbered : ℕ → List (List ℕ) → List (ℕ × List ℕ)
numbered n [] = []
numbered n (l ∷ ls) = if is_empty (line_text l) then numbered (suc n) ls else (n, line_text l) ∷ numbered (suc n) ls

-- the texts of an input, by the numbers of their lines from 1 on
abbrev pub numbered_lines : List ℕ → List (ℕ × List ℕ)
numbered_lines b = numbered 1 (full_lines b)
