-- What is no whitespace, no number, no character between quotes.
use Rattle.std.proofs.Common.{◌≡◌, ℕ, ◌≤◌, true, false, List, [], refl, codes, None, ⊎_elim, arith}
use Rattle.sj_text_core.specs.Grammar.{IsSpace, IsNumeral, IsHexDigit, IsRaw, IsCode, IsPair, short_escape}

-- a vertical tab and a no-break space's first byte are no whitespace
not_space-vertical : IsSpace 11 → ⊥
not_space-vertical h = ⊎_elim (λ e. absurd (omega (arith, e))) (λ h. ⊎_elim (λ e. absurd (omega (arith, e))) (λ h. ⊎_elim (λ e. absurd (omega (arith, e))) (λ e. absurd (omega (arith, e))) h) h) h

not_space-high : IsSpace 160 → ⊥
not_space-high h = ⊎_elim (λ e. absurd (omega (arith, e))) (λ h. ⊎_elim (λ e. absurd (omega (arith, e))) (λ h. ⊎_elim (λ e. absurd (omega (arith, e))) (λ e. absurd (omega (arith, e))) h) h) h

-- 01, no digits at all, a digit and a letter
not_numeral-leading_zero : IsNumeral (codes "01") → ⊥
not_numeral-leading_zero h = let e : codes "01" ≡ codes "0" = h.plain refl in cc e

not_numeral-nothing : IsNumeral [] → ⊥
not_numeral-nothing h = absurd (omega (arith, h.some))

not_numeral-letter : IsNumeral (codes "1e") → ⊥
not_numeral-letter h = absurd (omega (arith, h.digits.1.0.1))

-- `g` and `@` are no hexadecimal digits
not_hex-g : IsHexDigit 103 → ⊥
not_hex-g h = absurd (omega (arith, h))

not_hex-at : IsHexDigit 64 → ⊥
not_hex-at h = absurd (omega (arith, h))

-- a control character, a quote and a backslash do not stand for themselves
not_raw-control : (b : List ℕ) → IsRaw 31 b → ⊥
not_raw-control b h = absurd (omega (arith, h.printed))

not_raw-quote : (b : List ℕ) → IsRaw 34 b → ⊥
not_raw-quote b h = h.no_quote refl

not_raw-backslash : (b : List ℕ) → IsRaw 92 b → ⊥
not_raw-backslash b h = h.no_backslash refl

-- no escape of a letter beside the eight
short_escape-a : short_escape 97 ≡ None
short_escape-a = refl

short_escape-u : short_escape 117 ≡ None
short_escape-u = refl

-- half of a pair is no character of its own
not_code-high : (b : List ℕ) → IsCode 0xD83D b → ⊥
not_code-high b h = let e : false ≡ true = h.scalar in cc e

not_code-low : (b : List ℕ) → IsCode 0xDE00 b → ⊥
not_code-low b h = let e : false ≡ true = h.scalar in cc e

-- a pair writes a character past U+FFFF
pair-past : (c : ℕ) (b : List ℕ) → IsPair c b → 0x10000 ≤ c
pair-past c b h = omega (arith, h.is_high.0, h.is_low.0, h.writes)
