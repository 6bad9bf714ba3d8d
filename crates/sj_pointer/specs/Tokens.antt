-- The tokens of a pointer (RFC 6901, sections 3 and 4).
use Rattle.std.specs.Prelude.{ℕ, ◌==◌, ◌&&◌, List, [], ◌∷◌, drop, map, if◌then◌else◌}
use Rattle.sj_text_core.specs.Ascii.{slash, digit_zero, digit_one, tilde}

-- b in front of the first text
abbrev pub onto : ℕ → List (List ℕ) → List (List ℕ)
onto b [] = (b ∷ []) ∷ []
onto b (w ∷ ws) = (b ∷ w) ∷ ws

-- the texts that a text's slashes part, one more than there are slashes
abbrev pub parted : List ℕ → List (List ℕ)
parted [] = [] ∷ []
parted (b ∷ s) = if b == slash then [] ∷ parted s else onto b (parted s)

-- with the byte c in the place of each tilde that has the byte d behind it, and of that d
abbrev pub tilde_replaced : ℕ → ℕ → List ℕ → List ℕ
tilde_replaced d c [] = []
tilde_replaced d c (x ∷ []) = x ∷ []
tilde_replaced d c (x ∷ y ∷ s) = if (x == tilde) && (y == d) then c ∷ tilde_replaced d c s else x ∷ tilde_replaced d c (y ∷ s)

-- section 4: first a slash in the place of each `~1`, and then a tilde in the place of each `~0`
abbrev pub decoded : List ℕ → List ℕ
decoded w = tilde_replaced digit_zero tilde (tilde_replaced digit_one slash w)

-- section 3: what stands behind the slashes, decoded
abbrev pub tokens_of : List ℕ → List (List ℕ)
tokens_of s = map decoded (drop 1 (parted s))
