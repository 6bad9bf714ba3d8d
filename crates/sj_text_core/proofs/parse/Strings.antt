-- Strings: what is spelled is read, and what is read from UTF-8 is spelled.
use Rattle.std.proofs.Common.{◌≡◌, ◌≢◌, ◌⊎◌, ℕ, zero, suc, ◌+◌, ◌-◌, ◌*◌, ◌<◌, ◌≤◌, Bool, true, false, cond, List, [], ◌∷◌, ◌++◌, length, take, drop, get_or, option_map, option_and_then, Some, None, IsUtf8, refl, sym, ap, subst, ◌∙◌, arith, append_assoc, length-append, inl, inr, ⊎_elim, ◌==◌, if◌then◌else◌, ◌&&◌, fold}
use Rattle.std.specs.List.{AllByRecursion}
use Rattle.std.specs.Char.{digit_value, encode_utf8, IsScalar}
use Rattle.std.specs.Str.{encode_utf8_all, all_scalars}
use Rattle.std.specs.Char.Utf16.{surrogate_pair_char}
use Rattle.std.specs.Int.{IsInRange}
use lib.Utf8.{scalar_cases}
use Rattle.std.proofs.lemmas.Bool.Decides.{nat_tests, eqb_tells}
use Rattle.std.proofs.lemmas.Option.{none-some, option_and_then_some, some_pair_parts}
use Rattle.std.proofs.lemmas.List.{take-append-le, drop-append-le, get_or_append_left, take-append-drop, drop_at, length-drop}
use Rattle.std.proofs.lemmas.Bool.{and_parts, lt-ltb}
use Rattle.std.proofs.lemmas.Str.{encode_ascii, IsUtf8-drop, IsCharBoundary-after_ascii, length-encode}
use Rattle.sj_text_core.specs.Grammar.{IsHexDigit, IsRaw, IsShort, IsCode, IsPair, IsItem, AreItems, IsString, short_escape}
use Rattle.sj_text_core.specs.inner.Parse.{is_hex, unit_at, is_high, is_low, pair_with, pair_at, code_with, code_at, escape_at, with_front, text_from, read_text}
use Rattle.sj_text_core.proofs.parse.Escapes.{quote, backslash, control, plain, text_skip, text_quote, with_escape, text_backslash, text_control, with_front_some, text_run, Byte, byte_of, text_ends, encode_plain, escape_sound, false-true}

-- what is spelled is read
pub is_hex_of : (d : ℕ) → digit_value d < 16 → is_hex d ≡ true
is_hex_of d h = lt-ltb (digit_value d) 16 h

unit_read : (u : ℕ) (p r : List ℕ) → length p ≡ 4 → AllByRecursion IsHexDigit p → u ≡ fold (λ n d. n * 16 + digit_value d) 0 p → unit_at (p ++ r) ≡ Some u
unit_read u [] r l h v = absurd (omega (arith, l))
unit_read u (w ∷ []) r l h v = absurd (omega (arith, l))
unit_read u (w ∷ x ∷ []) r l h v = absurd (omega (arith, l))
unit_read u (w ∷ x ∷ y ∷ []) r l h v = absurd (omega (arith, l))
unit_read u (w ∷ x ∷ y ∷ z ∷ k ∷ p) r l h v = absurd (omega (arith, l))
unit_read u (w ∷ x ∷ y ∷ z ∷ []) r l h v =
    taken (is_hex w) (is_hex x) (is_hex y) (is_hex z) _ (is_hex_of w h.0) (is_hex_of x h.1.0) (is_hex_of y h.1.1.0) (is_hex_of z h.1.1.1.0) ∙ ap (λ n. Some n) (sums (digit_value w) (digit_value x) (digit_value y) (digit_value z) ∙ sym v)
  where
    taken : (a b c d : Bool) (n : ℕ) → a ≡ true → b ≡ true → c ≡ true → d ≡ true → (if a && b && c && d then Some n else None) ≡ Some n
    taken true true true true n e f g h = refl
    taken false b c d n e f g h = absurd (false-true e)
    taken true false c d n e f g h = absurd (false-true f)
    taken true true false d n e f g h = absurd (false-true g)
    taken true true true false n e f g h = absurd (false-true h)

    sums : (a b c d : ℕ) → a * 4096 + b * 256 + c * 16 + d ≡ (((0 * 16 + a) * 16 + b) * 16 + c) * 16 + d
    sums a b c d = omega arith

-- one item and what follows it
abbrev Reads : ℕ → List ℕ → List ℕ → Type 0
Reads c p r = read_text (p ++ r) ≡ with_front (encode_utf8 c) (read_text r)

by_escape : (c n : ℕ) (q r : List ℕ) → escape_at (q ++ r) ≡ Some (c, n) → length q ≡ n → Reads c (92 ∷ q) r
by_escape c n q r e l =
    text_backslash (q ++ r) ∙ (ap (λ o. option_and_then (λ e. with_escape (q ++ r) e) o) e
    ∙ ap (λ o. with_front (encode_utf8 c) o) (text_skip n (q ++ r) ∙ ap (λ l. read_text l) (drop_at q r n l)))

raw_read : (c : ℕ) (p r : List ℕ) → IsRaw c p → Reads c p r
raw_read c p r h = ap (λ l. read_text (l ++ r)) h.is ∙ text_run (encode_utf8 c) r (encode_plain c (h.printed, h.no_quote, h.no_backslash))

short_read : (c : ℕ) (p r : List ℕ) → IsShort c p → Reads c p r
short_read c p r h = ap (λ l. read_text (l ++ r)) h.is ∙ by_escape c 1 (h.second ∷ []) r (known h.second r (eqb_tells h.second 117) h.names) refl
  where
    known : (x : ℕ) (r : List ℕ) → ((x == 117 ≡ true) × (x ≡ 117)) ⊎ ((x == 117 ≡ false) × (x ≢ 117)) → short_escape x ≡ Some c → escape_at (x ∷ r) ≡ Some (c, 1)
    known x r (inl k) e = absurd (none-some c (sym (ap (λ y. short_escape y) k.1) ∙ e))
    known x r (inr k) e = ap (λ t. cond t (code_at r) (option_map {U = ℕ × ℕ} (λ c. (c, 1)) (short_escape x))) k.0 ∙ ap (λ o. option_map {U = ℕ × ℕ} (λ c. (c, 1)) o) e

-- a scalar is no high surrogate
pub no_high : (u : ℕ) → IsScalar u → is_high u ≡ false
no_high u h = ⊎_elim (λ k. below u k) (λ k. above u k.0) (scalar_cases u h)
  where
    below : (u : ℕ) → u < 55296 → is_high u ≡ false
    below u k = grind (arith, nat_tests)

    above : (u : ℕ) → 57344 ≤ u → is_high u ≡ false
    above u k = grind (arith, nat_tests)

-- a scalar is no low surrogate
pub no_low : (u : ℕ) → IsScalar u → is_low u ≡ false
no_low u h = ⊎_elim (λ k. below u k) (λ k. above u k.0) (scalar_cases u h)
  where
    below : (u : ℕ) → u < 55296 → is_low u ≡ false
    below u k = grind (arith, nat_tests)

    above : (u : ℕ) → 57344 ≤ u → is_low u ≡ false
    above u k = grind (arith, nat_tests)

code_read : (c : ℕ) (p r : List ℕ) → IsCode c p → Reads c p r
code_read c p r h =
    let ds = h.unit.digits in
    ap (λ l. read_text (l ++ r)) h.unit.is
    ∙ by_escape c 5 (117 ∷ ds) r
    (ap (λ o. option_and_then (λ u. code_with u (drop 4 (ds ++ r))) o) (unit_read c ds r h.unit.four h.unit.hex h.unit.value)
    ∙ (ap (λ t. cond t (pair_at c (drop 4 (ds ++ r))) (cond (is_low c) None (Some (c, 5)))) (no_high c h.scalar) ∙ ap (λ t. cond t None (Some (c, 5))) (no_low c h.scalar)))
    (ap (λ n. suc n) h.unit.four)

pair_read : (c : ℕ) (p r : List ℕ) → IsPair c p → Reads c p r
pair_read c p r h =
    let ds = h.first_unit.digits in
    let es = h.second_unit.digits in
    let tail = 92 ∷ 117 ∷ (es ++ r) in
    let back : drop 4 (ds ++ tail) ≡ tail = drop_at ds tail 4 h.first_unit.four in
    let regroup : (ds ++ (92 ∷ 117 ∷ es)) ++ r ≡ ds ++ tail = append_assoc ds (92 ∷ 117 ∷ es) r in
    let paired : pair_at h.high tail ≡ Some (c, 11) =
    ap (λ o. option_and_then (λ low. pair_with h.high low) o) (unit_read h.low es r h.second_unit.four h.second_unit.hex h.second_unit.value)
    ∙ (ap (λ t. cond t (Some (surrogate_pair_char h.high h.low, 11)) None) (low_test h.low h.is_low) ∙ ap (λ d. Some (d, 11)) (sym h.writes)) in
    let all : h.first ++ h.second ≡ 92 ∷ 117 ∷ (ds ++ (92 ∷ 117 ∷ es)) = ap (λ l. l ++ h.second) h.first_unit.is ∙ ap (λ l. 92 ∷ 117 ∷ (ds ++ l)) h.second_unit.is in
    ap (λ l. read_text (l ++ r)) (h.is ∙ all)
    ∙ by_escape c 11 (117 ∷ (ds ++ (92 ∷ 117 ∷ es))) r
    (ap (λ l. code_at l) regroup
    ∙ (ap (λ o. option_and_then (λ u. code_with u (drop 4 (ds ++ tail))) o) (unit_read h.high ds tail h.first_unit.four h.first_unit.hex h.first_unit.value)
    ∙ (ap (λ t. cond t (pair_at h.high (drop 4 (ds ++ tail))) (cond (is_low h.high) None (Some (h.high, 5)))) (high_test h.high h.is_high)
    ∙ (ap (λ l. pair_at h.high l) back ∙ paired))))
    (omega (arith, length-append ds (92 ∷ 117 ∷ es), h.first_unit.four, h.second_unit.four))
  where
    low_test : (u : ℕ) → IsInRange 0xDC00 0xDFFF u → is_low u ≡ true
    low_test u k = grind (arith, nat_tests)

    high_test : (u : ℕ) → IsInRange 0xD800 0xDBFF u → is_high u ≡ true
    high_test u k = grind (arith, nat_tests)

-- one spelled character is read
pub item_read : (c : ℕ) (p r : List ℕ) → IsItem c p → Reads c p r
item_read c p r h = ⊎_elim (λ k. raw_read c p r k) (λ h. ⊎_elim (λ k. short_read c p r k) (λ h. ⊎_elim (λ k. code_read c p r k) (λ k. pair_read c p r k) h) h) h

-- spelled characters are read
pub items_read : (cs p r : List ℕ) → AreItems cs p → read_text (p ++ (34 ∷ r)) ≡ Some (encode_utf8_all cs, r)
items_read [] p r h = ap (λ l. read_text (l ++ (34 ∷ r))) h ∙ text_quote r
items_read (c ∷ cs) p r h =
    ap (λ l. read_text l) (ap (λ l. l ++ (34 ∷ r)) h.2 ∙ append_assoc h.0 h.1 (34 ∷ r))
    ∙ (item_read c h.0 (h.1 ++ (34 ∷ r)) h.3 ∙ ap (λ o. with_front (encode_utf8 c) o) (items_read cs h.1 r h.4))

-- what is read is spelled
abbrev pub Items : List ℕ → List ℕ → Type 0
Items s p = (cs : List ℕ) × AreItems cs p × (s ≡ encode_utf8_all cs)

abbrev Shorter : List ℕ → List ℕ → Type 0
Shorter p r = (q t : List ℕ) → length q < length p → IsUtf8 q → read_text (q ++ (34 ∷ r)) ≡ Some (t, r) → Items t q

one_more : (c : ℕ) (p first rest s t : List ℕ) → p ≡ first ++ rest → IsItem c first → Items t rest → s ≡ encode_utf8 c ++ t → Items s p
one_more c p first rest s t e h i z = (c ∷ i.0, (first, rest, e, h, i.1), z ∙ ap (λ l. encode_utf8 c ++ l) i.2)

encode_some : (c : ℕ) → 0 < length (encode_utf8 c)
encode_some c = subst (λ (n : ℕ). 0 < n) (sym (length-encode c)) (grind arith)

-- UTF-8 behind an ASCII byte
utf8_behind : (q : List ℕ) (m : ℕ) → 0 < m → m ≤ length q → get_or q (m - 1) 0 < 128 → IsUtf8 q → IsUtf8 (drop m q)
utf8_behind q m some le a u = ap_drop (IsUtf8-drop q (m - 1 + 1) u (IsCharBoundary-after_ascii q (m - 1) u (omega (arith, some, le)) a))
  where
    ap_drop : IsUtf8 (drop (m - 1 + 1) q) → IsUtf8 (drop m q)
    ap_drop h = subst (λ (n : ℕ). IsUtf8 (drop n q)) (omega (arith, some)) h

escaped : (q r s : List ℕ) → IsUtf8 q → read_text (92 ∷ (q ++ (34 ∷ r))) ≡ Some (s, r) → Shorter (92 ∷ q) r → Items s (92 ∷ q)
escaped q r s u e ih =
    let x = q ++ (34 ∷ r) in
    option_and_then_some (λ p. with_escape x p) (escape_at x) (s, r) (sym (text_backslash x) ∙ e) (λ p e1 e2.
    let k = escape_sound x p.0 p.1 e1 in
    let w = with_front_some (encode_utf8 p.0) (text_from p.1 x) s r e2 in
    let there : read_text (drop p.1 x) ≡ Some (w.0, r) = sym (text_skip p.1 x) ∙ w.1 in
    let ends = text_ends 0 (drop p.1 x) w.0 r there in
    let fits : p.1 ≤ length q = omega (arith, ap (λ (l : List ℕ). length l) ends.1, length-append ends.0 (34 ∷ r), length-drop p.1 x, length-append q (34 ∷ r)) in
    let back : drop p.1 x ≡ drop p.1 q ++ (34 ∷ r) = drop-append-le p.1 q (34 ∷ r) fits in
    let front : take p.1 x ≡ take p.1 q = take-append-le p.1 q (34 ∷ r) fits in
    let byte : get_or x (p.1 - 1) 0 ≡ get_or q (p.1 - 1) 0 = get_or_append_left q (34 ∷ r) 0 (p.1 - 1) (omega (arith, k.some, fits)) in
    one_more p.0 (92 ∷ q) (92 ∷ take p.1 q) (drop p.1 q) s w.0 (ap (λ l. 92 ∷ l) (sym (take-append-drop p.1 q)))
    (subst (λ l. IsItem p.0 (92 ∷ l)) front k.item)
    (ih (drop p.1 q) w.0 (omega (arith, length-drop p.1 q)) (utf8_behind q p.1 k.some fits (subst (λ (n : ℕ). n < 128) byte k.ascii) u) (ap (λ l. read_text l) (sym back) ∙ there))
    w.2)

by_char : (k : ℕ) → IsScalar k → Byte k → (q p r s : List ℕ) → p ≡ encode_utf8 k ++ q → IsUtf8 q → read_text (p ++ (34 ∷ r)) ≡ Some (s, r) → Shorter p r → Items s p
by_char k sc (quote z) q p r s f u e ih =
    let one : p ≡ 34 ∷ q = f ∙ ap (λ l. l ++ q) (ap (λ c. encode_utf8 c) z ∙ encode_ascii 34 (omega arith)) in
    let m = some_pair_parts [] s (q ++ (34 ∷ r)) r (sym (text_quote (q ++ (34 ∷ r))) ∙ (ap (λ l. read_text (l ++ (34 ∷ r))) (sym one) ∙ e)) in
    absurd (omega (arith, ap (λ (l : List ℕ). length l) m.1, length-append q (34 ∷ r)))
by_char k sc (backslash z) q p r s f u e ih =
    let one : p ≡ 92 ∷ q = f ∙ ap (λ l. l ++ q) (ap (λ c. encode_utf8 c) z ∙ encode_ascii 92 (omega arith)) in
    subst (λ l. Items s l) (sym one) (escaped q r s u (ap (λ l. read_text (l ++ (34 ∷ r))) (sym one) ∙ e) (subst (λ l. Shorter l r) one ih))
by_char k sc (control z) q p r s f u e ih =
    let one : p ≡ k ∷ q = f ∙ ap (λ l. l ++ q) (encode_ascii k (omega (arith, z))) in
    absurd (none-some (s, r) (sym (text_control k (q ++ (34 ∷ r)) z) ∙ (ap (λ l. read_text (l ++ (34 ∷ r))) (sym one) ∙ e)))
by_char k sc (plain z) q p r s f u e ih =
    let w = with_front_some (encode_utf8 k) (read_text (q ++ (34 ∷ r))) s r
    (sym (ap (λ l. read_text l) (ap (λ l. l ++ (34 ∷ r)) f ∙ append_assoc (encode_utf8 k) q (34 ∷ r)) ∙ text_run (encode_utf8 k) (q ++ (34 ∷ r)) (encode_plain k z)) ∙ e) in
    one_more k p (encode_utf8 k) q s w.0 f (inl (record { is = refl; scalar = sc; printed = z.0; no_quote = z.1; no_backslash = z.2 }))
    (ih q w.0 (omega (arith, ap (λ (l : List ℕ). length l) f, length-append (encode_utf8 k) q, encode_some k)) u w.1) w.2

any_items : (p r s ks : List ℕ) → all_scalars ks ≡ true → encode_utf8_all ks ≡ p → read_text (p ++ (34 ∷ r)) ≡ Some (s, r) → Shorter p r → Items s p
any_items p r s [] sc f e ih =
    let m = some_pair_parts [] s r r (sym (text_quote r) ∙ (ap (λ l. read_text (l ++ (34 ∷ r))) f ∙ e)) in ([], sym f, sym m.0)
any_items p r s (k ∷ ks) sc f e ih = let h = and_parts _ (all_scalars ks) sc in by_char k h.0 (byte_of k) (encode_utf8_all ks) p r s (sym f) (ks, (h.1, refl)) e ih

-- what is read from UTF-8 is spelled by characters
pub items_are : (n : ℕ) (p r s : List ℕ) → length p ≤ n → IsUtf8 p → read_text (p ++ (34 ∷ r)) ≡ Some (s, r) → Items s p
items_are zero p r s l u e = any_items p r s u.0 u.1.0 u.1.1 e (λ q t k v f. absurd (omega (arith, k, l)))
items_are (suc n) p r s l u e = any_items p r s u.0 u.1.0 u.1.1 e (λ q t k v f. items_are n q r t (omega (arith, k, l)) v f)

-- a string is what is read behind its quote
pub string_is : (p r s : List ℕ) → IsUtf8 p → read_text (p ++ (34 ∷ r)) ≡ Some (s, r) → IsString (34 ∷ (p ++ 34 ∷ [])) s
string_is p r s u e = let k = items_are (length p) p r s (omega arith) u e in record { inside = p; chars = k.0; is = refl; items = k.1; text = k.2 }

-- a spelled string is read
pub string_read : (p s r : List ℕ) → (h : IsString p s) → read_text (h.inside ++ (34 ∷ r)) ≡ Some (s, r)
string_read p s r h = items_read h.chars h.inside r h.items ∙ ap (λ l. Some (l, r)) (sym h.text)
