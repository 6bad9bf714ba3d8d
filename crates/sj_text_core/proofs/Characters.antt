-- The characters that a spelled string writes.
use Rattle.std.proofs.Common.{◌≡◌, ℕ, ◌<◌, ◌&&◌, true, List, [], ◌∷◌, IsUtf8, Some, refl, sym, ap, subst, ◌∙◌, arith, ⊎_elim}
use Rattle.std.specs.Char.{digit_value, IsScalar}
use Rattle.std.specs.Str.{all_scalars}
use Rattle.std.specs.Char.Utf16.{surrogate_pair_char}
use Rattle.std.specs.Int.{IsInRange}
use lib.Utf8.{low_scalar}
use Rattle.std.proofs.lemmas.Bool.Decides.{nat_tests}
use Rattle.sj_text_core.specs.Grammar.{IsItem, AreItems, IsString, short_escape}

pub hex_ascii : (d : ℕ) → digit_value d < 16 → d < 128
hex_ascii d h = grind (arith, nat_tests)

pub short_ascii : (x c : ℕ) → short_escape x ≡ Some c → x < 128
short_ascii x c e = grind (arith, nat_tests)

pub short_scalar : (x c : ℕ) → short_escape x ≡ Some c → c < 128
short_scalar x c e = grind (arith, nat_tests)

-- each item is a character
pair_scalar : (high low : ℕ) → IsInRange 0xD800 0xDBFF high → IsInRange 0xDC00 0xDFFF low → IsScalar (surrogate_pair_char high low)
pair_scalar high low h k = grind (arith, nat_tests)

pub item_scalar : (c : ℕ) (p : List ℕ) → IsItem c p → IsScalar c
item_scalar c p h = ⊎_elim (λ k. k.scalar) (λ h. ⊎_elim (λ k. low_scalar c (omega (arith, short_scalar k.second c k.names)))
    (λ h. ⊎_elim (λ k. k.scalar) (λ k. subst (λ (d : ℕ). IsScalar d) (sym k.writes) (pair_scalar k.high k.low k.is_high k.is_low)) h) h) h

pub items_scalar : (cs p : List ℕ) → AreItems cs p → all_scalars cs ≡ true
items_scalar [] p h = refl
items_scalar (c ∷ cs) p h = ap (λ t. t && all_scalars cs) (item_scalar c h.0 h.3) ∙ items_scalar cs h.1 h.4

pub string_utf8 : (p s : List ℕ) → IsString p s → IsUtf8 s
string_utf8 p s h = (h.chars, (items_scalar h.chars h.inside h.items, sym h.text))
