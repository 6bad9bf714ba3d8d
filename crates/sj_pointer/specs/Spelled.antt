-- The texts that spell a pointer's tokens (RFC 6901, section 3), as a relation on whole texts.
use Rattle.std.specs.Prelude.{◌≡◌, ◌≢◌, ◌⊎◌, ℕ, List, [], ◌∷◌, ◌++◌}
use Rattle.sj_text_core.specs.Ascii.{slash, digit_zero, digit_one, tilde}

-- the byte c of a token: itself, unless it is a slash or a tilde; or a tilde as `~0`, or a slash as `~1`
abbrev pub IsPart : ℕ → List ℕ → Type 0
IsPart c b = ((b ≡ c ∷ []) × (c ≢ slash) × (c ≢ tilde)) ⊎ (((c ≡ tilde) × (b ≡ tilde ∷ digit_zero ∷ [])) ⊎ ((c ≡ slash) × (b ≡ tilde ∷ digit_one ∷ [])))

-- the bytes of a token, one behind another
abbrev pub SpellsToken : List ℕ → List ℕ → Type 0
SpellsToken [] b = b ≡ []
SpellsToken (c ∷ cs) b = (first : List ℕ) × (rest : List ℕ) × (b ≡ first ++ rest) × IsPart c first × SpellsToken cs rest

-- tokens, each with a slash in front
abbrev pub SpellsTokens : List (List ℕ) → List ℕ → Type 0
SpellsTokens [] b = b ≡ []
SpellsTokens (k ∷ ks) b = (first : List ℕ) × (rest : List ℕ) × (b ≡ slash ∷ (first ++ rest)) × SpellsToken k first × SpellsTokens ks rest
