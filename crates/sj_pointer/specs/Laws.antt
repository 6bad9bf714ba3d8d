-- What holds of pointers and positions.
use Rattle.std.specs.Prelude.{◌≡◌, ◌<◌, ◌^◌, ◌↔◌, ℕ, true, List, Some}
use Rattle.sj_text_core.specs.Grammar.{IsNumeral, value_of}
use Rattle.sj_pointer.specs.Syntax.{is_begun, is_escaped}
use Rattle.sj_pointer.specs.Tokens.{tokens_of}
use Rattle.sj_pointer.specs.Spelled.{SpellsTokens}
use Rattle.sj_pointer.specs.Shown.{pointer_text}
use Rattle.sj_text_core.specs.Places.{position_of}

-- a text spells tokens just where it is begun and escaped, and they are the text's tokens
abbrev pub TokensAreSpelled : Type 0
TokensAreSpelled = (ks : List (List ℕ)) (s : List ℕ) → SpellsTokens ks s ↔ ((is_begun s ≡ true) × (is_escaped s ≡ true) × (ks ≡ tokens_of s))

-- a token names a position just where it is a numeral of JSON (RFC 8259, section 6) below 2^64
abbrev pub PlacesAreNumerals : Type 0
PlacesAreNumerals = (s : List ℕ) (i : ℕ) → (position_of s ≡ Some i) ↔ (IsNumeral s × (value_of s ≡ i) × (i < 2 ^ 64))

-- the text that writes tokens spells them, and is read as them
abbrev pub TextsAreRead : Type 0
TextsAreRead = (ks : List (List ℕ)) → SpellsTokens ks (pointer_text ks) × (is_begun (pointer_text ks) ≡ true) × (is_escaped (pointer_text ks) ≡ true) × (tokens_of (pointer_text ks) ≡ ks)
