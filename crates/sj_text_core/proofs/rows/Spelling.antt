-- Two texts and the trees that they spell: one with whitespace in every free place, one with every kind of escape.
use Rattle.std.proofs.Common.{◌≡◌, ℕ, ◌+◌, ◌*◌, ◌≤◌, pos, List, [], ◌∷◌, ◌++◌, refl, sym, codes, Some, inl, inr, arith, lit<, lit≤}
use Rattle.std.specs.Char.{digit_value, encode_utf8, IsScalar}
use Rattle.std.specs.Str.{encode_utf8_all}
use Rattle.sj_text_core.specs.Tree.{u64, i64, Tree, int, text, list, obj, no_items, item, no_members, member}
use Rattle.sj_text_core.specs.Grammar.{IsBlank, Spaced, IsNumber, IsHexDigit, IsUnit, IsItem, AreItems, IsString, Spelling, Spells, short_escape}

-- a word with nothing around it
bare : (W : List ℕ → Type 0) (word : List ℕ) → W word → Spaced W (word ++ [])
bare W word w = record { before = []; word = word; after = []; is = refl; blank_before = tt; spelled = w; blank_after = tt }

-- whitespace of all four kinds around a word
abbrev blank : List ℕ
blank = 32 ∷ 9 ∷ 10 ∷ 13 ∷ []

is_blank : IsBlank blank
is_blank = (inl refl, (inr (inl refl), (inr (inr (inl refl)), (inr (inr (inr refl)), tt))))

spaced : (W : List ℕ → Type 0) (word : List ℕ) → W word → Spaced W (blank ++ (word ++ blank))
spaced W word w = record { before = blank; word = word; after = blank; is = refl; blank_before = is_blank; spelled = w; blank_after = is_blank }

record SpelledItems (cs b : List ℕ) : Type 0 where
  are : AreItems cs b

-- an item, and the items behind it
more : {c : ℕ} {first cs rest : List ℕ} → IsItem c first → SpelledItems cs rest → SpelledItems (c ∷ cs) (first ++ rest)
more {first = first} {rest = rest} i h = record { are = (first, rest, refl, i, h.are) }

none : SpelledItems [] []
none = record { are = refl }

-- a byte below 128 that stands for itself
raw : (c : ℕ) → encode_utf8 c ≡ c ∷ [] → IsScalar c → 32 ≤ c → (c ≡ 34 → ⊥) → (c ≡ 92 → ⊥) → IsItem c (c ∷ [])
raw c e s p q b = inl (record { is = sym e; scalar = s; printed = p; no_quote = q; no_backslash = b })

letter : (c : ℕ) → IsItem c (c ∷ []) → encode_utf8_all (c ∷ []) ≡ c ∷ [] → IsString (34 ∷ c ∷ 34 ∷ []) (c ∷ [])
letter c i e = record { inside = c ∷ []; chars = c ∷ []; is = refl; items = (c ∷ [], [], refl, i, refl); text = sym e }

key_a : IsString (codes "\"a\"") (codes "a")
unfolding encode_utf8
key_a = letter 97 (raw 97 refl refl (lit≤ tt) (λ e. absurd (omega (arith, e))) (λ e. absurd (omega (arith, e)))) refl

key_b : IsString (codes "\"b\"") (codes "b")
unfolding encode_utf8
key_b = letter 98 (raw 98 refl refl (lit≤ tt) (λ e. absurd (omega (arith, e))) (λ e. absurd (omega (arith, e)))) refl

number_one : IsNumber (codes "1") (int (pos 1) u64)
number_one = inl (record { some = lit< tt; digits = ((lit≤ tt, lit≤ tt), tt); plain = λ e. absurd (omega (arith, e)) }, refl)

number_minus_zero : IsNumber (codes "-0") (int (pos 0) i64)
number_minus_zero = inr (codes "0", refl, record { some = lit< tt; digits = ((lit≤ tt, lit≤ tt), tt); plain = λ e. refl }, refl)

-- [1,-0]
abbrev pair : Tree
pair = list (item (int (pos 1) u64) (item (int (pos 0) i64) no_items))

-- {"a":[1,-0],"b":{}}
abbrev object : Tree
object = obj (member (codes "a") pair (member (codes "b") (obj no_members) no_members))

abbrev wrapped : List ℕ → List ℕ
wrapped word = blank ++ (word ++ blank)

abbrev pair_text : List ℕ
pair_text = 91 ∷ ((wrapped (codes "1") ++ (44 ∷ (wrapped (codes "-0") ++ []))) ++ 93 ∷ [])

spells-pair : Spelling pair pair_text
spells-pair = (
  wrapped (codes "1") ++ (44 ∷ (wrapped (codes "-0") ++ [])),
  refl,
  (
    wrapped (codes "1"),
    44 ∷ (wrapped (codes "-0") ++ []),
    refl,
    spaced (λ w. IsNumber w (int (pos 1) u64)) (codes "1") number_one,
    (wrapped (codes "-0"), [], refl, spaced (λ w. IsNumber w (int (pos 0) i64)) (codes "-0") number_minus_zero, refl),
  ),
)

abbrev empty_text : List ℕ
empty_text = 123 ∷ (blank ++ 125 ∷ [])

spells-empty : Spelling (obj no_members) empty_text
spells-empty = (blank, refl, is_blank)

abbrev members_text : List ℕ
members_text = wrapped (codes "\"a\"") ++ (58 ∷ (wrapped pair_text ++ (44 ∷ (wrapped (codes "\"b\"") ++ (58 ∷ (wrapped empty_text ++ []))))))

spells-object : Spelling object (123 ∷ (members_text ++ 125 ∷ []))
spells-object = (
  members_text,
  refl,
  (
    wrapped (codes "\"a\""),
    wrapped pair_text,
    44 ∷ (wrapped (codes "\"b\"") ++ (58 ∷ (wrapped empty_text ++ []))),
    refl,
    spaced (λ w. IsString w (codes "a")) (codes "\"a\"") key_a,
    spaced (λ w. Spelling pair w) pair_text spells-pair,
    (
      wrapped (codes "\"b\""),
      wrapped empty_text,
      [],
      refl,
      spaced (λ w. IsString w (codes "b")) (codes "\"b\"") key_b,
      spaced (λ w. Spelling (obj no_members) w) empty_text spells-empty,
      refl,
    ),
  ),
)

-- all four bytes of whitespace around each structural byte and each value
spells-whitespace : Spells (codes " \t\n\r{ \t\n\r\"a\" \t\n\r: \t\n\r[ \t\n\r1 \t\n\r, \t\n\r-0 \t\n\r] \t\n\r, \t\n\r\"b\" \t\n\r: \t\n\r{ \t\n\r} \t\n\r} \t\n\r") object
spells-whitespace = spaced (λ w. Spelling object w) (123 ∷ (members_text ++ 125 ∷ [])) spells-object

short : (second c : ℕ) → short_escape second ≡ Some c → IsItem c (92 ∷ second ∷ [])
short second c e = inr (inl (record { second = second; is = refl; names = e }))

-- `\u` and four hexadecimal digits
unit : (u a b c d : ℕ) → IsHexDigit a → IsHexDigit b → IsHexDigit c → IsHexDigit d
    → u ≡ (((0 * 16 + digit_value a) * 16 + digit_value b) * 16 + digit_value c) * 16 + digit_value d → IsUnit u (92 ∷ 117 ∷ a ∷ b ∷ c ∷ d ∷ [])
unit u a b c d h i j k e = record { digits = a ∷ b ∷ c ∷ d ∷ []; is = refl; four = refl; hex = (h, (i, (j, (k, tt)))); value = e }

e_acute : IsItem 233 (195 ∷ 169 ∷ [])
unfolding encode_utf8
e_acute = inl (record { is = refl; scalar = refl; printed = lit≤ tt; no_quote = λ e. absurd (omega (arith, e)); no_backslash = λ e. absurd (omega (arith, e)) })

-- `\u0041` and `\u00E9`
code_a : IsItem 65 (codes "\\u0041")
code_a = inr (inr (inl (record { unit = unit 65 48 48 52 49 (lit< tt) (lit< tt) (lit< tt) (lit< tt) refl; scalar = refl })))

code_e : IsItem 233 (codes "\\u00E9")
code_e = inr (inr (inl (record { unit = unit 233 48 48 69 57 (lit< tt) (lit< tt) (lit< tt) (lit< tt) refl; scalar = refl })))

-- `\uD83d\ude00`, for U+1F600
two_units : IsItem 128512 (codes "\\uD83d\\ude00")
two_units = inr (inr (inr (record {
  high = 0xD83D;
  low = 0xDE00;
  first = codes "\\uD83d";
  second = codes "\\ude00";
  is = refl;
  first_unit = unit 0xD83D 68 56 51 100 (lit< tt) (lit< tt) (lit< tt) (lit< tt) refl;
  second_unit = unit 0xDE00 100 101 48 48 (lit< tt) (lit< tt) (lit< tt) (lit< tt) refl;
  is_high = (lit≤ tt, lit≤ tt);
  is_low = (lit≤ tt, lit≤ tt);
  writes = refl;
})))

-- the items of the string below, in turn
abbrev escapes : List ℕ
escapes = 195 ∷ 169 ∷ codes "\\\"\\\\\\/\\b\\f\\n\\r\\t\\u0041\\u00E9\\uD83d\\ude00"

abbrev characters : List ℕ
characters = 233 ∷ 34 ∷ 92 ∷ 47 ∷ 8 ∷ 12 ∷ 10 ∷ 13 ∷ 9 ∷ 65 ∷ 233 ∷ 128512 ∷ []

items : SpelledItems characters escapes
items =
    more {c = 233} {first = 195 ∷ 169 ∷ []} e_acute
    (more {c = 34} {first = codes "\\\""} (short 34 34 refl)
    (more {c = 92} {first = codes "\\\\"} (short 92 92 refl)
    (more {c = 47} {first = codes "\\/"} (short 47 47 refl)
    (more {c = 8} {first = codes "\\b"} (short 98 8 refl)
    (more {c = 12} {first = codes "\\f"} (short 102 12 refl)
    (more {c = 10} {first = codes "\\n"} (short 110 10 refl)
    (more {c = 13} {first = codes "\\r"} (short 114 13 refl)
    (more {c = 9} {first = codes "\\t"} (short 116 9 refl)
    (more {c = 65} {first = codes "\\u0041"} code_a
    (more {c = 233} {first = codes "\\u00E9"} code_e
    (more {c = 128512} {first = codes "\\uD83d\\ude00"} two_units none)))))))))))

-- every kind of escape, in both cases of hexadecimal digits, and a character of two bytes
spells-escapes : Spells (34 ∷ (escapes ++ 34 ∷ [])) (text (195 ∷ 169 ∷ 34 ∷ 92 ∷ 47 ∷ 8 ∷ 12 ∷ 10 ∷ 13 ∷ 9 ∷ 65 ∷ 195 ∷ 169 ∷ 0xF0 ∷ 0x9F ∷ 0x98 ∷ 0x80 ∷ []))
unfolding encode_utf8
spells-escapes =
    bare (λ w. IsString w (195 ∷ 169 ∷ 34 ∷ 92 ∷ 47 ∷ 8 ∷ 12 ∷ 10 ∷ 13 ∷ 9 ∷ 65 ∷ 195 ∷ 169 ∷ 0xF0 ∷ 0x9F ∷ 0x98 ∷ 0x80 ∷ [])) (34 ∷ (escapes ++ 34 ∷ []))
    (record { inside = escapes; chars = characters; is = refl; items = items.are; text = refl })
