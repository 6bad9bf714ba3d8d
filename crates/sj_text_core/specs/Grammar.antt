-- The texts that spell a tree (RFC 8259), as a relation on whole texts.
use Rattle.std.specs.Prelude.{◌≡◌, ◌≢◌, ◌⊎◌, ℕ, ◌+◌, ◌-◌, ◌*◌, ◌<◌, ◌≤◌, ◌^◌, ◌==◌, ◌||◌, pos, neg_ℤ, Bool, true, false, List, [], ◌∷◌, ◌++◌, length, slice_index, fold, nat_lt, nat_le, if◌then◌else◌, Option, Some, None, codes}
use Rattle.std.specs.List.{AllByRecursion}
use Rattle.std.specs.Char.{digit_value, encode_utf8, IsScalar}
use Rattle.std.specs.Char.Utf16.{surrogate_pair_char}
use Rattle.std.specs.Int.{IsInRange}
use Rattle.std.specs.Str.{encode_utf8_all}
use Rattle.sj_text_core.specs.Ascii.{backspace, tab, line_feed, form_feed, carriage_return, space, quote, comma, minus, slash, digit_zero, digit_nine, colon, open_bracket, backslash, close_bracket, lower_b, lower_f, lower_n, lower_r, lower_t, lower_u, open_brace, close_brace}
use Rattle.sj_text_core.specs.Tree.{i64, u64, i128, u128, Tree, null, boolean, int, text, list, obj, Items, no_items, item, Members, no_members, member, IsWithin}

-- section 2: space, tab, line feed, carriage return
abbrev pub IsSpace : ℕ → Type 0
IsSpace c = (c ≡ space) ⊎ (c ≡ tab) ⊎ (c ≡ line_feed) ⊎ (c ≡ carriage_return)

-- section 2: whitespace, free around each structural byte
abbrev pub IsBlank : List ℕ → Type 0
IsBlank b = AllByRecursion IsSpace b

-- b is whitespace, a word of W, and whitespace
pub record Spaced (W : List ℕ → Type 0) (b : List ℕ) : Type 0 where
  pub before : List ℕ
  pub word : List ℕ
  pub after : List ℕ
  pub is : b ≡ before ++ (word ++ after)
  pub blank_before : IsBlank before
  pub spelled : W word
  pub blank_after : IsBlank after

-- section 6: a digit
abbrev pub IsDigit : ℕ → Type 0
IsDigit c = (digit_zero ≤ c) × (c ≤ digit_nine)

-- section 6: `0`, or a digit from 1 to 9 and digits
pub record IsNumeral (b : List ℕ) : Type 0 where
  pub some : 0 < length b
  pub digits : AllByRecursion IsDigit b
  pub plain : slice_index b 0 ≡ digit_zero → b ≡ digit_zero ∷ []

-- section 6: the number that decimal digits write
abbrev pub value_of : List ℕ → ℕ
value_of b = fold (λ n c. n * 10 + (c - digit_zero)) 0 b

-- section 6: the number of that magnitude in its carrier, by whether a `-` stands before it; past 128 bits there is none
abbrev pub number_of : Bool → ℕ → Option Tree
number_of false n = if nat_lt n (2 ^ 64) then Some (int (pos n) u64) else if nat_lt n (2 ^ 128) then Some (int (pos n) u128) else None
number_of true n = if nat_le n (2 ^ 63) then Some (int (neg_ℤ (pos n)) i64) else if nat_le n (2 ^ 127) then Some (int (neg_ℤ (pos n)) i128) else None

-- section 6: b is an optional `-` and a numeral, and t is that number; a fraction or an exponent is not of this profile
abbrev pub IsNumber : List ℕ → Tree → Type 0
IsNumber b t =
    (IsNumeral b × (number_of false (value_of b) ≡ Some t))
    ⊎ ((digits : List ℕ) × (b ≡ minus ∷ digits) × IsNumeral digits × (number_of true (value_of digits) ≡ Some t))

-- section 7: the character of a two-byte escape, by its second byte
abbrev pub short_escape : ℕ → Option ℕ
short_escape x =
    if (x == quote) || (x == backslash) || (x == slash) then Some x
    else if x == lower_b then Some backspace
    else if x == lower_f then Some form_feed
    else if x == lower_n then Some line_feed
    else if x == lower_r then Some carriage_return
    else if x == lower_t then Some tab
    else None

-- section 7: a hexadecimal digit of either case
abbrev pub IsHexDigit : ℕ → Type 0
IsHexDigit d = digit_value d < 16

-- section 7: b is `\u` and four hexadecimal digits that write u
pub record IsUnit (u : ℕ) (b : List ℕ) : Type 0 where
  pub digits : List ℕ
  pub is : b ≡ backslash ∷ lower_u ∷ digits
  pub four : length digits ≡ 4
  pub hex : AllByRecursion IsHexDigit digits
  pub value : u ≡ fold (λ n d. n * 16 + digit_value d) 0 digits

-- section 7: the UTF-8 of one character that stands for itself
pub record IsRaw (c : ℕ) (b : List ℕ) : Type 0 where
  pub is : b ≡ encode_utf8 c
  pub scalar : IsScalar c
  pub printed : space ≤ c
  pub no_quote : c ≢ quote
  pub no_backslash : c ≢ backslash

-- section 7: a backslash and one more byte
pub record IsShort (c : ℕ) (b : List ℕ) : Type 0 where
  pub second : ℕ
  pub is : b ≡ backslash ∷ second ∷ []
  pub names : short_escape second ≡ Some c

-- section 7: one escape for a character below U+10000 that is no surrogate
pub record IsCode (c : ℕ) (b : List ℕ) : Type 0 where
  pub unit : IsUnit c b
  pub scalar : IsScalar c

-- section 7: a high and a low surrogate escape for one character past U+FFFF
pub record IsPair (c : ℕ) (b : List ℕ) : Type 0 where
  pub high : ℕ
  pub low : ℕ
  pub first : List ℕ
  pub second : List ℕ
  pub is : b ≡ first ++ second
  pub first_unit : IsUnit high first
  pub second_unit : IsUnit low second
  pub is_high : IsInRange 0xD800 0xDBFF high
  pub is_low : IsInRange 0xDC00 0xDFFF low
  pub writes : c ≡ surrogate_pair_char high low

-- section 7: b spells the character c between quotes
abbrev pub IsItem : ℕ → List ℕ → Type 0
IsItem c b = IsRaw c b ⊎ IsShort c b ⊎ IsCode c b ⊎ IsPair c b

-- b spells the characters one after another
abbrev pub AreItems : List ℕ → List ℕ → Type 0
AreItems [] b = b ≡ []
AreItems (c ∷ cs) b = (first : List ℕ) × (rest : List ℕ) × (b ≡ first ++ rest) × IsItem c first × AreItems cs rest

-- section 7: a quote, items, a quote; the text is the UTF-8 of the items' characters
pub record IsString (b : List ℕ) (s : List ℕ) : Type 0 where
  pub inside : List ℕ
  pub chars : List ℕ
  pub is : b ≡ quote ∷ (inside ++ quote ∷ [])
  pub items : AreItems chars inside
  pub text : s ≡ encode_utf8_all chars

-- sections 3 to 5
abbrev mutual
  -- b is a spelling of t, with no whitespace around it
  pub Spelling : Tree → List ℕ → Type 0
  Spelling null b = b ≡ codes "null"
  Spelling (boolean true) b = b ≡ codes "true"
  Spelling (boolean false) b = b ≡ codes "false"
  Spelling (int n c) b = IsNumber b (int n c)
  Spelling (text s) b = IsString b s
  Spelling (list is) b = (inside : List ℕ) × (b ≡ open_bracket ∷ (inside ++ close_bracket ∷ [])) × SpellsItems is inside
  Spelling (obj ms) b = (inside : List ℕ) × (b ≡ open_brace ∷ (inside ++ close_brace ∷ [])) × SpellsMembers ms inside

  -- the items, with `,` between each two
  pub SpellsItems : Items → List ℕ → Type 0
  SpellsItems no_items b = IsBlank b
  SpellsItems (item t is) b = (first : List ℕ) × (rest : List ℕ) × (b ≡ first ++ rest) × Spaced (λ w. Spelling t w) first × MoreItems is rest

  pub MoreItems : Items → List ℕ → Type 0
  MoreItems no_items b = b ≡ []
  MoreItems (item t is) b = (first : List ℕ) × (rest : List ℕ) × (b ≡ comma ∷ (first ++ rest)) × Spaced (λ w. Spelling t w) first × MoreItems is rest

  -- the members, each a string, `:` and a value
  pub SpellsMembers : Members → List ℕ → Type 0
  SpellsMembers no_members b = IsBlank b
  SpellsMembers (member k t ms) b = (key : List ℕ) × (first : List ℕ) × (rest : List ℕ) × (b ≡ key ++ (colon ∷ (first ++ rest)))
      × Spaced (λ w. IsString w k) key × Spaced (λ w. Spelling t w) first × MoreMembers ms rest

  pub MoreMembers : Members → List ℕ → Type 0
  MoreMembers no_members b = b ≡ []
  MoreMembers (member k t ms) b = (key : List ℕ) × (first : List ℕ) × (rest : List ℕ) × (b ≡ comma ∷ (key ++ (colon ∷ (first ++ rest))))
      × Spaced (λ w. IsString w k) key × Spaced (λ w. Spelling t w) first × MoreMembers ms rest

-- section 2: the whole text
abbrev pub Spells : List ℕ → Tree → Type 0
Spells b t = Spaced (λ w. Spelling t w) b

-- section 9: a tree within the limit is spelled
abbrev pub IsReadable : List ℕ → Type 0
IsReadable b = (t : Tree) × Spells b t × IsWithin t
