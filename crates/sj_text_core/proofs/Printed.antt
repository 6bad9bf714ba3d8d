-- What is printed of a tree spells it, with the carriers of the print.
use Rattle.std.proofs.Common.{◌≡◌, ℕ, zero, suc, ◌+◌, ◌-◌, ◌*◌, ◌/◌, ◌%◌, ◌<◌, ◌≤◌, ◌^◌, pos, negsuc, ℤ, Bool, true, false, List, [], ◌∷◌, ◌++◌, length, slice_index, get_or, fold, replicate, flat_map, nat_lt, nat_le, Some, None, IsUtf8, ◌⊎◌, ⊎_elim, inl, inr, refl, sym, ap, ◌∙◌, subst, arith, append_assoc, append-nil, length-append, codes, if◌then◌else◌}
use Rattle.std.specs.Fmt.{decimal, signed_decimal}
use Rattle.std.specs.List.{AllByRecursion}
use Rattle.std.specs.Char.{digit_value}
use Rattle.std.proofs.lemmas.Fmt.{decimal_by_steps_wide}
use Rattle.std.proofs.lemmas.List.Sums.{fold-append}
use Rattle.std.proofs.lemmas.Bool.{and_parts, cases_lt, cases_eq, ne_eqb, le-ltb, lt-ltb}
use Rattle.std.proofs.lemmas.Bool.Decides.{nat_tests}
use Rattle.std.proofs.lemmas.Str.{encode_ascii, inside_one}
use lib.Utf8.{scalar, scalars, encode, encodes, low_scalar}
use lib.Dec.{leb→le}
use Rattle.sj_text_core.specs.Tree.{Carrier, i64, u64, i128, u128, Carries, Tree, null, boolean, int, text, list, obj, Items, no_items, item, Members, no_members, member, IsProper, AreProper, HasProper}
use Rattle.sj_text_core.specs.Grammar.{IsBlank, IsDigit, IsNumber, value_of, number_of, short_escape, IsItem, AreItems, IsString, Spaced, Spelling, SpellsItems, MoreItems, SpellsMembers, MoreMembers, Spells}
use Rattle.sj_text_core.specs.Print.{hex_digit, escaped, quoted, compact, compact_items, compact_members, new_line, pretty, pretty_items, pretty_members, printed_carrier, recarry, recarry_items, recarry_members}
use Rattle.sj_text_core.proofs.Escapes.{escaped_plain, escaped-append, escaped_high}

-- decimals
record Decimal (n : ℕ) (ds : List ℕ) : Type 0 where
  pub some : 0 < length ds
  pub digits : AllByRecursion IsDigit ds
  pub value : value_of ds ≡ n
  pub plain : slice_index ds 0 ≡ 48 → ds ≡ 48 ∷ []

pub digits_more : (ds : List ℕ) (c : ℕ) → AllByRecursion IsDigit ds → IsDigit c → AllByRecursion IsDigit (ds ++ c ∷ [])
digits_more [] c h d = (d, tt)
digits_more (e ∷ ds) c h d = (h.0, digits_more ds c h.1 d)

pub first_stays : (ds : List ℕ) (c : ℕ) → 0 < length ds → slice_index (ds ++ c ∷ []) 0 ≡ slice_index ds 0
first_stays [] c h = absurd (omega (arith, h))
first_stays (d ∷ ds) c h = refl

decimal_is : (n : ℕ) → n < 10 ^ 64 → Decimal n (decimal n)
decimal_is = decimal_by_steps_wide Decimal one more where
  one : (n : ℕ) → n < 10 → Decimal n ((48 + n) ∷ [])
  one n h = record {
    some = omega arith;
    digits = ((omega arith, omega (arith, h)), tt);
    value = omega arith;
    plain = λ e. ap (λ c. c ∷ []) e;
  }

  more : (n : ℕ) (ds : List ℕ) → 10 ≤ n → Decimal (n / 10) ds → Decimal n (ds ++ ((48 + n % 10) ∷ []))
  more n ds h d = record {
    some = omega (arith, length-append ds ((48 + n % 10) ∷ []));
    digits = digits_more ds (48 + n % 10) d.digits (omega arith, omega arith);
    value = let front : fold (λ m c. m * 10 + (c - 48)) 0 ds ≡ n / 10 = d.value in fold-append (λ (m c : ℕ). m * 10 + (c - 48)) 0 ds ((48 + n % 10) ∷ []) ∙ omega (arith, front);
    plain = λ e. let only : ds ≡ 48 ∷ [] = d.plain (sym (first_stays ds (48 + n % 10) d.some) ∙ e) in let zeroes : n / 10 ≡ 0 = sym d.value ∙ ap value_of only in absurd (omega (arith, zeroes, h));
  }

pos_by : (n : ℕ) (x y : Bool) → y ≡ true → (if x then Some (int (pos n) u64) else if y then Some (int (pos n) u128) else None) ≡ Some (int (pos n) (if x then u64 else u128))
pos_by n true y e = refl
pos_by n false true e = refl
pos_by n false false e = cc

neg_by : (n : ℕ) (x z y : Bool) → x ≡ z → y ≡ true → (if x then Some (int (negsuc n) i64) else if y then Some (int (negsuc n) i128) else None) ≡ Some (int (negsuc n) (if z then i64 else i128))
neg_by n true true y f e = refl
neg_by n false false true f e = refl
neg_by n false false false f e = cc
neg_by n true false y f e = cc
neg_by n false true y f e = cc

less_or_next : (n k : ℕ) → nat_le (suc n) k ≡ nat_lt n k
less_or_next n k = grind (arith, nat_tests)

below : (c : Carrier) (n : ℕ) → Carries c (pos n) → n < 2 ^ 128
below i64 n h = let e : suc n ≤ 2 ^ 63 = leb→le (suc n) (2 ^ 63) h.1.lt in omega (arith, e)
below u64 n h = let e : suc n ≤ 2 ^ 64 = leb→le (suc n) (2 ^ 64) h.1.lt in omega (arith, e)
below i128 n h = let e : suc n ≤ 2 ^ 127 = leb→le (suc n) (2 ^ 127) h.1.lt in omega (arith, e)
below u128 n h = let e : suc n ≤ 2 ^ 128 = leb→le (suc n) (2 ^ 128) h.1.lt in omega (arith, e)

above : (c : Carrier) (n : ℕ) → Carries c (negsuc n) → n < 2 ^ 127
above i64 n h = let e : n ≤ 9223372036854775807 = leb→le n 9223372036854775807 h.0.le in omega (arith, e)
above u64 n h = absurd h.0.le
above i128 n h = let e : n ≤ 170141183460469231731687303715884105727 = leb→le n 170141183460469231731687303715884105727 h.0.le in omega (arith, e)
above u128 n h = absurd h.0.le

-- a decimal spells its number
number_spelled : (n : ℤ) (c : Carrier) → Carries c n → IsNumber (signed_decimal n) (int n (printed_carrier n))
number_spelled (pos n) c h =
    let small = below c n h in
    let d = decimal_is n (omega (arith, small)) in
    inl (
      record { some = d.some; digits = d.digits; plain = d.plain },
      ap (λ m. number_of false m) d.value ∙ pos_by n (nat_lt n (2 ^ 64)) (nat_lt n (2 ^ 128)) (lt-ltb n (2 ^ 128) small),
    )
number_spelled (negsuc n) c h =
    let small = above c n h in
    let d = decimal_is (suc n) (omega (arith, small)) in
    inr (
      decimal (suc n),
      refl,
      record { some = d.some; digits = d.digits; plain = d.plain },
      ap (λ m. number_of true m) d.value ∙ neg_by n (nat_le (suc n) (2 ^ 63)) (nat_lt n (2 ^ 63)) (nat_le (suc n) (2 ^ 127)) (less_or_next n (2 ^ 63)) (less_or_next n (2 ^ 127) ∙ lt-ltb n (2 ^ 127) small),
    )

hex_value : (d : ℕ) → d < 16 → digit_value (hex_digit d) ≡ d
hex_value d h = grind (arith, nat_tests)

-- a control character as four hexadecimal digits
coded : (c h d : ℕ) → c < 32 → d < 16 → h < 2 → c ≡ 16 * h + d → IsItem c (92 ∷ 117 ∷ 48 ∷ 48 ∷ (48 + h) ∷ hex_digit d ∷ [])
coded c h d l m t e =
    let second : digit_value (48 + h) ≡ h = grind (arith, nat_tests) in
    let last = hex_value d m in
    inr (inr (inl (record {
      unit = record {
        digits = 48 ∷ 48 ∷ (48 + h) ∷ hex_digit d ∷ [];
        is = refl;
        four = refl;
        hex = (omega arith, (omega arith, (omega (arith, second, t), (omega (arith, last, m), tt))));
        value = e ∙ omega (arith, second, last);
      };
      scalar = low_scalar c (omega (arith, l));
    })))

abbrev Spelled : ℕ → Type 0
Spelled c = IsItem c (escaped c)

short_item : (c x : ℕ) → escaped c ≡ 92 ∷ x ∷ [] → short_escape x ≡ Some c → Spelled c
short_item c x e s = inr (inl (record { second = x; is = e; names = s }))

ascii_item : (c : ℕ) → c < 128 → Spelled c
ascii_item c h = elim (cases_eq c 34) [
  | inl e ↦ rw e (short_item 34 34 refl refl)
  | inr n34 ↦ elim (cases_eq c 92) [
    | inl e ↦ rw e (short_item 92 92 refl refl)
    | inr n92 ↦ elim (cases_eq c 8) [
      | inl e ↦ rw e (short_item 8 98 refl refl)
      | inr n8 ↦ elim (cases_eq c 9) [
        | inl e ↦ rw e (short_item 9 116 refl refl)
        | inr n9 ↦ elim (cases_eq c 10) [
          | inl e ↦ rw e (short_item 10 110 refl refl)
          | inr n10 ↦ elim (cases_eq c 12) [
            | inl e ↦ rw e (short_item 12 102 refl refl)
            | inr n12 ↦ elim (cases_eq c 13) [
              | inl e ↦ rw e (short_item 13 114 refl refl)
              | inr n13 ↦ elim (cases_lt c 16) [
                | inl l ↦ rw (ne_eqb c 34 n34, ne_eqb c 92 n92, ne_eqb c 8 n8, ne_eqb c 9 n9, ne_eqb c 10 n10, ne_eqb c 12 n12, ne_eqb c 13 n13, lt-ltb c 16 l) (coded c 0 c (omega (arith, l)) l (omega arith) (omega arith))
                | inr m ↦ elim (cases_lt c 32) [
                  | inl l ↦ rw (ne_eqb c 34 n34, ne_eqb c 92 n92, ne_eqb c 8 n8, ne_eqb c 9 n9, ne_eqb c 10 n10, ne_eqb c 12 n12, ne_eqb c 13 n13, le-ltb c 16 m, lt-ltb c 32 l) (coded c 1 (c - 16) l (omega (arith, l, m)) (omega arith) (omega (arith, m)))
                  | inr p ↦ inl (record { is = escaped_plain c n34 n92 p ∙ sym (encode_ascii c h); scalar = low_scalar c (omega (arith, h)); printed = p; no_quote = n34; no_backslash = n92 })
                ]
              ]
            ]
          ]
        ]
      ]
    ]
  ]
]

char_item : (c : ℕ) → scalar c ≡ true → IsItem c (flat_map escaped (encode c))
char_item c ok = elim (cases_lt c 128) [
  | inl small ↦ subst (IsItem c) (sym (ap (flat_map escaped) (encode_ascii c small) ∙ append-nil (escaped c))) (ascii_item c small)
  | inr big ↦
      let high : (k : ℕ) → k < length (encode c) → 128 ≤ get_or (encode c) k 0 = λ k below. elim (cases_lt (get_or (encode c) k 0) 128) [
        | inl low ↦ absurd (omega (arith, inside_one c [] (encode c) k (sym (append-nil _)) below low))
        | inr h ↦ h
      ] in
      inl (record { is = escaped_high (encode c) high; scalar = ok; printed = omega (arith, big); no_quote = λ e. omega (arith, big, e); no_backslash = λ e. omega (arith, big, e) })
]

chars_items : (cs : List ℕ) → scalars cs ≡ true → AreItems cs (flat_map escaped (encodes cs))
chars_items [] e = refl
chars_items (c ∷ cs) e =
    let p = and_parts _ _ e in
    (flat_map escaped (encode c), flat_map escaped (encodes cs), escaped-append (encode c) (encodes cs), char_item c p.0, chars_items cs p.1)

-- a text between its quotes spells the text
string_spelled : (s : List ℕ) → IsUtf8 s → IsString (quoted s) s
string_spelled s u = record {
  inside = flat_map escaped s;
  chars = u.0;
  is = refl;
  items = subst (λ l. AreItems u.0 (flat_map escaped l)) u.1.1 (chars_items u.0 u.1.0);
  text = sym u.1.1;
}

-- a word with no whitespace around it
bare : (W : List ℕ → Type 0) (w : List ℕ) → W w → Spaced W w
bare W w h = record { before = []; word = w; after = []; is = sym (append-nil w); blank_before = tt; spelled = h; blank_after = tt }

member_ends : (o c : ℕ) (k a : List ℕ) → o ∷ (k ++ (58 ∷ (a ++ c ∷ []))) ≡ o ∷ ((k ++ (58 ∷ a)) ++ c ∷ [])
member_ends o c k a = ap (λ l. o ∷ l) (sym (append_assoc k (58 ∷ a) (c ∷ [])))

mutual
  compact_spelled : (t : Tree) → IsProper t → Spelling (recarry t) (compact t)
  compact_spelled null h = refl
  compact_spelled (boolean true) h = refl
  compact_spelled (boolean false) h = refl
  compact_spelled (int n c) h = number_spelled n c h
  compact_spelled (text s) h = string_spelled s h
  compact_spelled (list no_items) h = ([], refl, tt)
  compact_spelled (list (item t is)) h = (
    compact t ++ compact_items is,
    refl,
    (compact t, compact_items is, refl, bare (λ w. Spelling (recarry t) w) (compact t) (compact_spelled t h.0), compact_items_spelled is h.1),
  )
  compact_spelled (obj no_members) h = ([], refl, tt)
  compact_spelled (obj (member k t ms)) h = (
    quoted k ++ (58 ∷ (compact t ++ compact_members ms)),
    member_ends 123 125 (quoted k) (compact t ++ compact_members ms),
    (quoted k, compact t, compact_members ms, refl, bare (λ w. IsString w k) (quoted k) (string_spelled k h.0), bare (λ w. Spelling (recarry t) w) (compact t) (compact_spelled t h.1), compact_members_spelled ms h.2),
  )

  compact_items_spelled : (is : Items) → AreProper is → MoreItems (recarry_items is) (compact_items is)
  compact_items_spelled no_items h = refl
  compact_items_spelled (item t is) h =
      (compact t, compact_items is, refl, bare (λ w. Spelling (recarry t) w) (compact t) (compact_spelled t h.0), compact_items_spelled is h.1)

  compact_members_spelled : (ms : Members) → HasProper ms → MoreMembers (recarry_members ms) (compact_members ms)
  compact_members_spelled no_members h = refl
  compact_members_spelled (member k t ms) h =
      (quoted k, compact t, compact_members ms, refl, bare (λ w. IsString w k) (quoted k) (string_spelled k h.0), bare (λ w. Spelling (recarry t) w) (compact t) (compact_spelled t h.1), compact_members_spelled ms h.2)

-- the compact text of a proper tree spells it, with the carriers of the print
pub compact-spells : (t : Tree) → IsProper t → Spells (compact t) (recarry t)
compact-spells t h = bare (λ w. Spelling (recarry t) w) (compact t) (compact_spelled t h)

spaces_blank : (n : ℕ) → IsBlank (replicate n 32)
spaces_blank zero = tt
spaces_blank (suc n) = (inl refl, spaces_blank n)

line_blank : (level : ℕ) → IsBlank (new_line level)
line_blank level = (inr (inr (inl refl)), spaces_blank (2 * level))

-- a word with whitespace around it
spaced : (W : List ℕ → Type 0) (before w after : List ℕ) → IsBlank before → W w → IsBlank after → Spaced W (before ++ (w ++ after))
spaced W before w after b h a = record { before = before; word = w; after = after; is = refl; blank_before = b; spelled = h; blank_after = a }

regroup_last : (before w tail : List ℕ) → before ++ (w ++ ([] ++ tail)) ≡ (before ++ (w ++ tail)) ++ []
regroup_last before w tail = sym (append-nil (before ++ (w ++ tail)))

three : (n u r tail : List ℕ) → ((n ++ u) ++ r) ++ tail ≡ n ++ (u ++ (r ++ tail))
three n u r tail = append_assoc (n ++ u) r tail ∙ append_assoc n u (r ++ tail)

five : (n q c u r tail : List ℕ) → ((((n ++ q) ++ c) ++ u) ++ r) ++ tail ≡ n ++ (q ++ (c ++ (u ++ (r ++ tail))))
five n q c u r tail = three ((n ++ q) ++ c) u r tail ∙ append_assoc (n ++ q) c (u ++ (r ++ tail)) ∙ append_assoc n q (c ++ (u ++ (r ++ tail)))

regroup_item : (before w n u r tail x : List ℕ) → n ++ (u ++ (r ++ tail)) ≡ x → before ++ (w ++ ((44 ∷ ((n ++ u) ++ r)) ++ tail)) ≡ (before ++ (w ++ [])) ++ (44 ∷ x)
regroup_item before w n u r tail x e =
    ap (λ l. before ++ (w ++ (44 ∷ l))) (three n u r tail ∙ e)
    ∙ sym (append_assoc before w (44 ∷ x)) ∙ ap (λ l. (before ++ l) ++ (44 ∷ x)) (sym (append-nil w))

regroup_member : (before k w n q u r tail x : List ℕ) → n ++ (q ++ ((58 ∷ 32 ∷ []) ++ (u ++ (r ++ tail)))) ≡ x
    → before ++ (k ++ ((58 ∷ 32 ∷ []) ++ (w ++ ((44 ∷ ((((n ++ q) ++ (58 ∷ 32 ∷ [])) ++ u) ++ r)) ++ tail)))) ≡ (before ++ (k ++ [])) ++ (58 ∷ (((32 ∷ []) ++ (w ++ [])) ++ (44 ∷ x)))
regroup_member before k w n q u r tail x e =
    ap (λ l. before ++ (k ++ (58 ∷ 32 ∷ (w ++ (44 ∷ l))))) (five n q (58 ∷ 32 ∷ []) u r tail ∙ e)
    ∙ sym (append_assoc before k (58 ∷ 32 ∷ (w ++ (44 ∷ x)))) ∙ ap (λ l. (before ++ l) ++ (58 ∷ 32 ∷ (w ++ (44 ∷ x)))) (sym (append-nil k))
    ∙ ap (λ l. (before ++ (k ++ [])) ++ (58 ∷ 32 ∷ (l ++ (44 ∷ x)))) (sym (append-nil w))

regroup_last_member : (before k w tail : List ℕ) → before ++ (k ++ ((58 ∷ 32 ∷ []) ++ (w ++ ([] ++ tail)))) ≡ (before ++ (k ++ [])) ++ (58 ∷ (((32 ∷ []) ++ (w ++ tail)) ++ []))
regroup_last_member before k w tail =
    sym (append_assoc before k (58 ∷ 32 ∷ (w ++ tail))) ∙ ap (λ l. (before ++ l) ++ (58 ∷ 32 ∷ (w ++ tail))) (sym (append-nil k)) ∙ ap (λ l. (before ++ (k ++ [])) ++ (58 ∷ 32 ∷ l)) (sym (append-nil (w ++ tail)))

inside_ends : (o c : ℕ) (a b d e : List ℕ) → o ∷ ((((a ++ b) ++ d) ++ e) ++ c ∷ []) ≡ o ∷ ((a ++ (b ++ (d ++ e))) ++ c ∷ [])
inside_ends o c a b d e = ap (λ l. o ∷ (l ++ c ∷ [])) (three a b d e)

inside_member_ends : (o c : ℕ) (a k b d e : List ℕ) → o ∷ ((((((a ++ k) ++ (58 ∷ 32 ∷ [])) ++ b) ++ d) ++ e) ++ c ∷ []) ≡ o ∷ ((a ++ (k ++ ((58 ∷ 32 ∷ []) ++ (b ++ (d ++ e))))) ++ c ∷ [])
inside_member_ends o c a k b d e = ap (λ l. o ∷ (l ++ c ∷ [])) (five a k (58 ∷ 32 ∷ []) b d e)

mutual
  pretty_spelled : (t : Tree) → IsProper t → (level : ℕ) → Spelling (recarry t) (pretty level t)
  pretty_spelled null h level = refl
  pretty_spelled (boolean true) h level = refl
  pretty_spelled (boolean false) h level = refl
  pretty_spelled (int n c) h level = number_spelled n c h
  pretty_spelled (text s) h level = string_spelled s h
  pretty_spelled (list no_items) h level = ([], refl, tt)
  pretty_spelled (list (item t is)) h level = (
    new_line (level + 1) ++ (pretty (level + 1) t ++ (pretty_items (level + 1) is ++ new_line level)),
    inside_ends 91 93 (new_line (level + 1)) (pretty (level + 1) t) (pretty_items (level + 1) is) (new_line level),
    pretty_items_spelled is h.1 (level + 1) (recarry t) (new_line (level + 1)) (pretty (level + 1) t) (new_line level) (line_blank (level + 1)) (line_blank level) (pretty_spelled t h.0 (level + 1)),
  )
  pretty_spelled (obj no_members) h level = ([], refl, tt)
  pretty_spelled (obj (member k t ms)) h level = (
    new_line (level + 1) ++ (quoted k ++ (codes ": " ++ (pretty (level + 1) t ++ (pretty_members (level + 1) ms ++ new_line level)))),
    inside_member_ends 123 125 (new_line (level + 1)) (quoted k) (pretty (level + 1) t) (pretty_members (level + 1) ms) (new_line level),
    pretty_members_spelled ms h.2 (level + 1) k (recarry t) (new_line (level + 1)) (pretty (level + 1) t) (new_line level) (line_blank (level + 1)) (line_blank level) (string_spelled k h.0) (pretty_spelled t h.1 (level + 1)),
  )

  -- an item behind whitespace, the others, and whitespace behind the last
  pretty_items_spelled : (is : Items) → AreProper is → (level : ℕ) (t : Tree) (before w tail : List ℕ) → IsBlank before → IsBlank tail → Spelling t w
      → SpellsItems (item t (recarry_items is)) (before ++ (w ++ (pretty_items level is ++ tail)))
  pretty_items_spelled no_items h level t before w tail b a s =
      (before ++ (w ++ tail), [], regroup_last before w tail, spaced (λ w. Spelling t w) before w tail b s a, refl)
  pretty_items_spelled (item u is) h level t before w tail b a s =
      let more = pretty_items_spelled is h.1 level (recarry u) (new_line level) (pretty level u) tail (line_blank level) a (pretty_spelled u h.0 level) in (
        before ++ (w ++ []),
        44 ∷ (more.0 ++ more.1),
        regroup_item before w (new_line level) (pretty level u) (pretty_items level is) tail (more.0 ++ more.1) more.2,
        spaced (λ w. Spelling t w) before w [] b s tt,
        (more.0, more.1, refl, more.3, more.4),
      )

  pretty_members_spelled : (ms : Members) → HasProper ms → (level : ℕ) (k : List ℕ) (t : Tree) (before w tail : List ℕ) → IsBlank before → IsBlank tail → IsString (quoted k) k → Spelling t w
      → SpellsMembers (member k t (recarry_members ms)) (before ++ (quoted k ++ (codes ": " ++ (w ++ (pretty_members level ms ++ tail)))))
  pretty_members_spelled no_members h level k t before w tail b a q s = (
    before ++ (quoted k ++ []),
    (32 ∷ []) ++ (w ++ tail),
    [],
    regroup_last_member before (quoted k) w tail,
    spaced (λ w. IsString w k) before (quoted k) [] b q tt,
    spaced (λ w. Spelling t w) (32 ∷ []) w tail (inl refl, tt) s a,
    refl,
  )
  pretty_members_spelled (member l u ms) h level k t before w tail b a q s =
      let more = pretty_members_spelled ms h.2 level l (recarry u) (new_line level) (pretty level u) tail (line_blank level) a (string_spelled l h.0) (pretty_spelled u h.1 level) in (
        before ++ (quoted k ++ []),
        (32 ∷ []) ++ (w ++ []),
        44 ∷ (more.0 ++ (58 ∷ (more.1 ++ more.2))),
        regroup_member before (quoted k) w (new_line level) (quoted l) (pretty level u) (pretty_members level ms) tail (more.0 ++ (58 ∷ (more.1 ++ more.2))) more.3,
        spaced (λ w. IsString w k) before (quoted k) [] b q tt,
        spaced (λ w. Spelling t w) (32 ∷ []) w [] (inl refl, tt) s tt,
        (more.0, more.1, more.2, refl, more.4, more.5, more.6),
      )

-- the pretty text too
pub pretty-spells : (t : Tree) (level : ℕ) → IsProper t → Spells (pretty level t) (recarry t)
pretty-spells t level h = bare (λ w. Spelling (recarry t) w) (pretty level t) (pretty_spelled t h level)

-- either text
pub spelled_by : (t : Tree) (b : List ℕ) → IsProper t → (b ≡ compact t) ⊎ (b ≡ pretty 0 t) → Spells b (recarry t)
spelled_by t b h e = ⊎_elim (λ e. subst (λ b. Spells b (recarry t)) (sym e) (compact-spells t h)) (λ e. subst (λ b. Spells b (recarry t)) (sym e) (pretty-spells t 0 h)) e
