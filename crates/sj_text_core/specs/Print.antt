-- The printed text of a tree, compact and pretty (RFC 8259, sections 2 to 7).
use Rattle.std.specs.Prelude.{ℕ, ◌+◌, ◌-◌, ◌*◌, ◌^◌, ℤ, pos, negsuc, true, false, List, [], ◌∷◌, ◌++◌, replicate, codes, nat_lt, ◌==◌, if◌then◌else◌, flat_map}
use Rattle.std.specs.Fmt.{signed_decimal}
use Rattle.sj_text_core.specs.Ascii.{backspace, tab, line_feed, form_feed, carriage_return, space, quote, comma, digit_zero, colon, open_bracket, backslash, close_bracket, open_brace, close_brace}
use Rattle.sj_text_core.specs.Tree.{Carrier, i64, u64, i128, u128, Tree, null, boolean, int, text, list, obj, Items, no_items, item, Members, no_members, member}

-- a hexadecimal digit, in lower case; that of 10 is `a`, which is 97
abbrev pub hex_digit : ℕ → ℕ
hex_digit n = if nat_lt n 10 then digit_zero + n else 87 + n

-- section 7: a byte of a text between quotes
abbrev pub escaped : ℕ → List ℕ
escaped c =
    if c == quote then codes "\\\""
    else if c == backslash then codes "\\\\"
    else if c == backspace then codes "\\b"
    else if c == tab then codes "\\t"
    else if c == line_feed then codes "\\n"
    else if c == form_feed then codes "\\f"
    else if c == carriage_return then codes "\\r"
    else if nat_lt c 16 then codes "\\u000" ++ (hex_digit c ∷ [])
    else if nat_lt c space then codes "\\u001" ++ (hex_digit (c - 16) ∷ [])
    else (c ∷ [])

-- a text or a key between its quotes
abbrev pub quoted : List ℕ → List ℕ
quoted s = quote ∷ (flat_map escaped s ++ quote ∷ [])

-- no whitespace
abbrev mutual
  pub compact : Tree → List ℕ
  compact null = codes "null"
  compact (boolean true) = codes "true"
  compact (boolean false) = codes "false"
  compact (int n c) = signed_decimal n
  compact (text s) = quoted s
  compact (list no_items) = codes "[]"
  compact (list (item t is)) = open_bracket ∷ (compact t ++ compact_items is ++ close_bracket ∷ [])
  compact (obj no_members) = codes "{}"
  compact (obj (member k t ms)) = open_brace ∷ (quoted k ++ colon ∷ (compact t ++ compact_members ms ++ close_brace ∷ []))

  -- each behind a comma
  pub compact_items : Items → List ℕ
  compact_items no_items = []
  compact_items (item t is) = comma ∷ (compact t ++ compact_items is)

  pub compact_members : Members → List ℕ
  compact_members no_members = []
  compact_members (member k t ms) = comma ∷ (quoted k ++ colon ∷ (compact t ++ compact_members ms))

-- a line feed, and two spaces a level
abbrev pub new_line : ℕ → List ℕ
new_line level = line_feed ∷ replicate (2 * level) space

-- two spaces a level; a line feed and the indentation behind an opening bracket, behind each comma and before a closing bracket;
-- a space behind each colon; empty containers as in the compact text
abbrev mutual
  pub pretty : ℕ → Tree → List ℕ
  pretty level null = codes "null"
  pretty level (boolean true) = codes "true"
  pretty level (boolean false) = codes "false"
  pretty level (int n c) = signed_decimal n
  pretty level (text s) = quoted s
  pretty level (list no_items) = codes "[]"
  pretty level (list (item t is)) = open_bracket ∷ (new_line (level + 1) ++ pretty (level + 1) t ++ pretty_items (level + 1) is ++ new_line level ++ close_bracket ∷ [])
  pretty level (obj no_members) = codes "{}"
  pretty level (obj (member k t ms)) = open_brace ∷ (new_line (level + 1) ++ quoted k ++ codes ": " ++ pretty (level + 1) t ++ pretty_members (level + 1) ms ++ new_line level ++ close_brace ∷ [])

  pub pretty_items : ℕ → Items → List ℕ
  pretty_items level no_items = []
  pretty_items level (item t is) = comma ∷ (new_line level ++ pretty level t ++ pretty_items level is)

  pub pretty_members : ℕ → Members → List ℕ
  pretty_members level no_members = []
  pretty_members level (member k t ms) = comma ∷ (new_line level ++ quoted k ++ codes ": " ++ pretty level t ++ pretty_members level ms)

-- the carrier that the decimal print of a number is read with
abbrev pub printed_carrier : ℤ → Carrier
printed_carrier (pos n) = if nat_lt n (2 ^ 64) then u64 else u128
printed_carrier (negsuc n) = if nat_lt n (2 ^ 63) then i64 else i128

-- each number with the carrier that its print is read with
abbrev mutual
  pub recarry : Tree → Tree
  recarry null = null
  recarry (boolean b) = boolean b
  recarry (int n c) = int n (printed_carrier n)
  recarry (text s) = text s
  recarry (list is) = list (recarry_items is)
  recarry (obj ms) = obj (recarry_members ms)

  pub recarry_items : Items → Items
  recarry_items no_items = no_items
  recarry_items (item t is) = item (recarry t) (recarry_items is)

  pub recarry_members : Members → Members
  recarry_members no_members = no_members
  recarry_members (member k t ms) = member k (recarry t) (recarry_members ms)
