-- Reading from left to right, as the code goes. Only private clauses cite it.
use Rattle.std.specs.Prelude.{ℕ, zero, suc, ◌+◌, ◌*◌, Bool, true, false, ◌||◌, ◌&&◌, ◌==◌, nat_lt, nat_le, if◌then◌else◌, List, [], ◌∷◌, ◌++◌, length, take, drop, get_or, Option, Some, None, option_map, option_and_then, codes}
use Rattle.sj_text_core.specs.Tree.{items_from, members_from, Tree, null, boolean, text, list, obj}
use Rattle.std.specs.List.{starts_with}
use Rattle.sj_text_core.specs.Grammar.{value_of, number_of, short_escape}
use Rattle.std.specs.Char.{digit_value, encode_utf8}
use Rattle.std.specs.Char.Utf16.{surrogate_pair_char}

abbrev pub Reading : Type 0 → Type 0
Reading X = Option (X × List ℕ)

abbrev pub is_space : ℕ → Bool
is_space c = (c == 32) || (c == 9) || (c == 10) || (c == 13)

abbrev pub after_blank : List ℕ → List ℕ
after_blank [] = []
after_blank (c ∷ b) = if is_space c then after_blank b else c ∷ b

abbrev pub is_hex : ℕ → Bool
is_hex d = nat_lt (digit_value d) 16

abbrev pub unit_of : ℕ → ℕ → ℕ → ℕ → Option ℕ
unit_of a b c d = if is_hex a && is_hex b && is_hex c && is_hex d then Some (digit_value a * 4096 + digit_value b * 256 + digit_value c * 16 + digit_value d) else None

-- what four hexadecimal digits write
abbrev pub unit_at : List ℕ → Option ℕ
unit_at b = unit_of (get_or b 0 0) (get_or b 1 0) (get_or b 2 0) (get_or b 3 0)

abbrev pub is_high : ℕ → Bool
is_high u = nat_le 0xD800 u && nat_lt u 0xDC00

abbrev pub is_low : ℕ → Bool
is_low u = nat_le 0xDC00 u && nat_lt u 0xE000

-- behind a high surrogate: the character of the pair, and how many bytes were read from the `u` on
abbrev pub pair_with : ℕ → ℕ → Option (ℕ × ℕ)
pair_with high low = if is_low low then Some (surrogate_pair_char high low, 11) else None

abbrev pub pair_at : ℕ → List ℕ → Option (ℕ × ℕ)
pair_at high b = if (get_or b 0 0 == 92) && (get_or b 1 0 == 117) then option_and_then (λ low. pair_with high low) (unit_at (drop 2 b)) else None

abbrev pub code_with : ℕ → List ℕ → Option (ℕ × ℕ)
code_with u b = if is_high u then pair_at u b else if is_low u then None else Some (u, 5)

-- behind `\u`
abbrev pub code_at : List ℕ → Option (ℕ × ℕ)
code_at b = option_and_then (λ u. code_with u (drop 4 b)) (unit_at b)

-- behind a backslash: the character, and how many bytes were read
abbrev pub escape_at : List ℕ → Option (ℕ × ℕ)
escape_at b = if get_or b 0 0 == 117 then code_at (drop 1 b) else option_map (λ c. (c, 1)) (short_escape (get_or b 0 0))

abbrev pub with_front : List ℕ → Reading (List ℕ) → Reading (List ℕ)
with_front front read = option_map (λ p. (front ++ p.0, p.1)) read

-- the text from the k-th byte on up to the quote
unfoldable pub text_from : ℕ → List ℕ → Reading (List ℕ)
text_from k [] = None
text_from (suc k) (c ∷ b) = text_from k b
text_from zero (c ∷ b) =
    if c == 34 then Some ([], b)
    else if c == 92 then option_and_then (λ e. with_front (encode_utf8 e.0) (text_from e.1 b)) (escape_at b)
    else if nat_lt c 32 then None
    else with_front (c ∷ []) (text_from 0 b)

-- the text behind its first quote
abbrev pub read_text : List ℕ → Reading (List ℕ)
read_text b = text_from 0 b

abbrev pub is_digit : ℕ → Bool
is_digit c = nat_le 48 c && nat_le c 57

abbrev pub digits_len : List ℕ → ℕ
digits_len [] = 0
digits_len (c ∷ b) = if is_digit c then digits_len b + 1 else 0

-- whether a fraction or an exponent follows
abbrev pub goes_on : List ℕ → Bool
goes_on b = (get_or b 0 0 == 46) || (get_or b 0 0 == 101) || (get_or b 0 0 == 69)

-- digits, n of them first
abbrev pub numeral_at : Bool → ℕ → List ℕ → Reading Tree
numeral_at minus n b =
    if n == 0 then None
    else if (get_or b 0 0 == 48) && nat_lt 1 n then None
    else if goes_on (drop n b) then None
    else option_map (λ t. (t, drop n b)) (number_of minus (value_of (take n b)))

abbrev pub number_at : List ℕ → Reading Tree
number_at b = if get_or b 0 0 == 45 then numeral_at true (digits_len (drop 1 b)) (drop 1 b) else numeral_at false (digits_len b) b

abbrev pub word_at : List ℕ → Tree → List ℕ → Reading Tree
word_at w t b = if starts_with ◌==◌ b w then Some (t, drop (length w) b) else None

-- behind a part: whether a comma and more parts follow, or the closing byte
abbrev pub separator_or : ℕ → List ℕ → Reading Bool
separator_or close [] = None
separator_or close (c ∷ b) = if c == close then Some (false, b) else if c == 44 then Some (true, after_blank b) else None

abbrev pub separator_at : ℕ → List ℕ → Reading Bool
separator_at close b = separator_or close (after_blank b)

abbrev pub with_first : {X : Type 0} → X → Reading (List X) → Reading (List X)
with_first x read = option_map (λ p. (x ∷ p.0, p.1)) read

-- one part or more up to the closing byte; at most as many as the fuel
unfoldable pub parts_at : {X : Type 0} → ℕ → (List ℕ → Reading X) → ℕ → List ℕ → Reading (List X)
parts_at close read zero b = None
parts_at close read (suc n) b =
    option_and_then (λ p. option_and_then (λ s. if s.0 then with_first p.0 (parts_at close read n s.1) else Some (p.0 ∷ [], s.1)) (separator_at close p.1)) (read b)

-- none, or one part or more
abbrev pub all_parts_at : {X : Type 0} → ℕ → (List ℕ → Reading X) → List ℕ → Reading (List X)
all_parts_at close read b = if get_or b 0 0 == close then Some ([], drop 1 b) else parts_at close read (length b) b

abbrev pub after_key : (List ℕ → Reading Tree) → List ℕ → List ℕ → Reading (List ℕ × Tree)
after_key read k b = if get_or b 0 0 == 58 then option_map (λ p. ((k, p.0), p.1)) (read (after_blank (drop 1 b))) else None

abbrev pub read_member : (List ℕ → Reading Tree) → List ℕ → Reading (List ℕ × Tree)
read_member read b = if get_or b 0 0 == 34 then option_and_then (λ p. after_key read p.0 (after_blank p.1)) (read_text (drop 1 b)) else None

abbrev pub list_at : (List ℕ → Reading Tree) → List ℕ → Reading Tree
list_at read b = option_map (λ p. (list (items_from p.0), p.1)) (all_parts_at 93 read (after_blank b))

abbrev pub obj_at : (List ℕ → Reading Tree) → List ℕ → Reading Tree
obj_at read b = option_map (λ p. (obj (members_from p.0), p.1)) (all_parts_at 125 (read_member read) (after_blank b))

-- a value that begins with c, where the two read what follows an opening bracket
abbrev pub value_by : (List ℕ → Reading Tree) → (List ℕ → Reading Tree) → List ℕ → Reading Tree
value_by in_list in_obj [] = None
value_by in_list in_obj (c ∷ b) =
    if c == 34 then option_map (λ p. (text p.0, p.1)) (read_text b)
    else if c == 91 then in_list b
    else if c == 123 then in_obj b
    else if c == 110 then word_at (codes "null") null (c ∷ b)
    else if c == 116 then word_at (codes "true") (boolean true) (c ∷ b)
    else if c == 102 then word_at (codes "false") (boolean false) (c ∷ b)
    else number_at (c ∷ b)

abbrev pub nothing_at : List ℕ → Reading Tree
nothing_at b = None

-- a value with at most that many lists and objects open
unfoldable pub read_value : ℕ → List ℕ → Reading Tree
read_value zero = value_by nothing_at nothing_at
read_value (suc d) = value_by (list_at (read_value d)) (obj_at (read_value d))

-- the whole text
abbrev pub read_whole : Tree → List ℕ → Option Tree
read_whole t [] = Some t
read_whole t (c ∷ b) = None

abbrev pub read_tree : ℕ → List ℕ → Option Tree
read_tree depth b = option_and_then (λ p. read_whole p.0 (after_blank p.1)) (read_value depth (after_blank b))
