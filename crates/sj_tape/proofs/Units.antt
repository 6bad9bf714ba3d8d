-- Escapes at a place of the bytes.
use Rattle.std.proofs.Common.{◌≡◌, ◌≢◌, ◌⊎◌, ℕ, ◌+◌, ◌-◌, ◌*◌, ◌<◌, ◌≤◌, true, false, List, length, drop, get_or, option_map, option_and_then, Option, Some, None, refl, sym, ap, ◌∙◌, arith, length-drop, ⊎_elim, inl, inr, ◌==◌, ◌&&◌, if◌then◌else◌, nat_lt, Result, Ok, Err, IfOk, OnErr}
use Rattle.std.specs.Char.{digit_value, IsScalar, OutOfScalarRange}
use Rattle.std.specs.Char.Utf16.{surrogate_pair_char}
use Rattle.std.proofs.lemmas.Bool.Decides.{nat_tests, eqb_tells}
use Rattle.std.proofs.lemmas.List.{drop-drop, get_or-drop}
use Rattle.std.proofs.lemmas.Bool.{eq-eqb, and_right}
use Rattle.sj_text_core.specs.Grammar.{short_escape}
use Rattle.sj_text_core.specs.inner.Parse.{unit_at, is_high, is_low, pair_with, pair_at, code_with, code_at, escape_at}
use Rattle.sj_text_core.specs.declared.error.ErrorKind.{ErrorKind}
use Rattle.sj_text_core.proofs.parse.Escapes.{unit_sound}
use Rattle.sj_text_core.proofs.parse.Strings.{no_high, no_low}

byte_at : (b : List ℕ) (at k : ℕ) → get_or (drop at b) k 0 ≡ get_or b (at + k) 0
byte_at b at k = get_or-drop at b k 0

first_at : (b : List ℕ) (at : ℕ) → get_or (drop at b) 0 0 ≡ get_or b at 0
first_at b at = byte_at b at 0 ∙ ap (λ n. get_or b n 0) (omega arith)

-- fewer than four bytes write nothing
pub unit_short : (b : List ℕ) (at : ℕ) → length b - at < 4 → None ≡ unit_at (drop at b)
unit_short b at h = by (unit_at (drop at b)) refl
  where
    by : (o : Option ℕ) → unit_at (drop at b) ≡ o → None ≡ unit_at (drop at b)
    by None e = sym e
    by (Some u) e = absurd (omega (arith, h, (unit_sound (drop at b) u e).fits, length-drop at b))

units : (b : List ℕ) (at w x y z : ℕ) → w ≡ digit_value (get_or b at 0) → x ≡ digit_value (get_or b (at + 1) 0) → y ≡ digit_value (get_or b (at + 2) 0) → z ≡ digit_value (get_or b (at + 3) 0)
    → unit_at (drop at b) ≡ (if nat_lt w 16 && nat_lt x 16 && nat_lt y 16 && nat_lt z 16 then Some (w * 4096 + x * 256 + y * 16 + z) else None)
units b at w x y z e f g h =
    let i = ap (λ c. digit_value c) (first_at b at) ∙ sym e in
    let j = ap (λ c. digit_value c) (byte_at b at 1) ∙ sym f in
    let k = ap (λ c. digit_value c) (byte_at b at 2) ∙ sym g in
    let l = ap (λ c. digit_value c) (byte_at b at 3) ∙ sym h in
    λ t. if nat_lt (i t) 16 && nat_lt (j t) 16 && nat_lt (k t) 16 && nat_lt (l t) 16 then Some (i t * 4096 + j t * 256 + k t * 16 + l t) else None

-- four digits at a place
pub unit_is : (b : List ℕ) (at w x y z : ℕ) → w ≡ digit_value (get_or b at 0) → x ≡ digit_value (get_or b (at + 1) 0) → y ≡ digit_value (get_or b (at + 2) 0) → z ≡ digit_value (get_or b (at + 3) 0)
    → w < 16 → x < 16 → y < 16 → z < 16 → Some (w * 4096 + x * 256 + y * 16 + z) ≡ unit_at (drop at b)
unit_is b at w x y z e f g h i j k l = sym (units b at w x y z e f g h ∙ taken w x y z _ i j k l)
  where
    taken : (w x y z n : ℕ) → w < 16 → x < 16 → y < 16 → z < 16 → (if nat_lt w 16 && nat_lt x 16 && nat_lt y 16 && nat_lt z 16 then Some n else None) ≡ Some n
    taken w x y z n i j k l = grind (arith, nat_tests)

-- four bytes that are not all digits
pub unit_no : (b : List ℕ) (at w x y z : ℕ) → w ≡ digit_value (get_or b at 0) → x ≡ digit_value (get_or b (at + 1) 0) → y ≡ digit_value (get_or b (at + 2) 0) → z ≡ digit_value (get_or b (at + 3) 0)
    → (16 ≤ w) ⊎ (16 ≤ x) ⊎ (16 ≤ y) ⊎ (16 ≤ z) → None ≡ unit_at (drop at b)
unit_no b at w x y z e f g h i = sym (units b at w x y z e f g h ∙ refused i)
  where
    one : (w x y z n : ℕ) → 16 ≤ w → (if nat_lt w 16 && nat_lt x 16 && nat_lt y 16 && nat_lt z 16 then Some n else None) ≡ None
    one w x y z n i = grind (arith, nat_tests)

    two : (w x y z n : ℕ) → 16 ≤ x → (if nat_lt w 16 && nat_lt x 16 && nat_lt y 16 && nat_lt z 16 then Some n else None) ≡ None
    two w x y z n i = grind (arith, nat_tests)

    three : (w x y z n : ℕ) → 16 ≤ y → (if nat_lt w 16 && nat_lt x 16 && nat_lt y 16 && nat_lt z 16 then Some n else None) ≡ None
    three w x y z n i = grind (arith, nat_tests)

    four : (w x y z n : ℕ) → 16 ≤ z → (if nat_lt w 16 && nat_lt x 16 && nat_lt y 16 && nat_lt z 16 then Some n else None) ≡ None
    four w x y z n i = grind (arith, nat_tests)

    refused : (16 ≤ w) ⊎ (16 ≤ x) ⊎ (16 ≤ y) ⊎ (16 ≤ z) → (if nat_lt w 16 && nat_lt x 16 && nat_lt y 16 && nat_lt z 16 then Some (w * 4096 + x * 256 + y * 16 + z) else None) ≡ None
    refused (inl q) = one w x y z _ q
    refused (inr (inl q)) = two w x y z _ q
    refused (inr (inr (inl q))) = three w x y z _ q
    refused (inr (inr (inr q))) = four w x y z _ q

no_test : (x n : ℕ) → x ≢ n → (x == n) ≡ false
no_test x n h = ⊎_elim (λ q. absurd (h q.1)) (λ q. q.0) (eqb_tells x n)

pairs : (h : ℕ) (b : List ℕ) (at : ℕ) → pair_at h (drop at b) ≡ (if (get_or b at 0 == 92) && (get_or b (at + 1) 0 == 117) then option_and_then (λ low. pair_with h low) (unit_at (drop (at + 2) b)) else None)
pairs h b at =
    let i = first_at b at in
    let j = byte_at b at 1 in
    let k : drop 2 (drop at b) ≡ drop (at + 2) b = drop-drop 2 at b ∙ ap (λ n. drop n b) (omega arith) in
    λ t. if (i t == 92) && (j t == 117) then option_and_then (λ low. pair_with h low) (unit_at (k t)) else None

-- no second escape
pub pair_no_backslash : (h : ℕ) (b : List ℕ) (at : ℕ) → get_or b at 0 ≢ 92 → pair_at h (drop at b) ≡ None
pair_no_backslash h b at n = pairs h b at ∙ ap (λ t. if t && (get_or b (at + 1) 0 == 117) then option_and_then (λ low. pair_with h low) (unit_at (drop (at + 2) b)) else None) (no_test (get_or b at 0) 92 n)

-- a second escape of another kind
pub pair_no_u : (h : ℕ) (b : List ℕ) (at : ℕ) → get_or b (at + 1) 0 ≢ 117 → pair_at h (drop at b) ≡ None
pair_no_u h b at n = pairs h b at ∙ ap (λ t. if t then option_and_then (λ low. pair_with h low) (unit_at (drop (at + 2) b)) else None) (and_right (get_or b at 0 == 92) _ (no_test (get_or b (at + 1) 0) 117 n))

pair_opened : (h : ℕ) (b : List ℕ) (at u : ℕ) → get_or b at 0 ≡ 92 → get_or b (at + 1) 0 ≡ 117 → Some u ≡ unit_at (drop (at + 2) b) → pair_at h (drop at b) ≡ pair_with h u
pair_opened h b at u m n e =
    pairs h b at
    ∙ (λ t. if eq-eqb (get_or b at 0) 92 m t && eq-eqb (get_or b (at + 1) 0) 117 n t then option_and_then (λ low. pair_with h low) (sym e t) else None)

-- a second unit that is no low one
pub pair_not_low : (h : ℕ) (b : List ℕ) (at u : ℕ) → get_or b at 0 ≡ 92 → get_or b (at + 1) 0 ≡ 117 → Some u ≡ unit_at (drop (at + 2) b) → (u < 56320) ⊎ ((56320 ≤ u) × (57344 ≤ u)) → pair_at h (drop at b) ≡ None
pair_not_low h b at u m n e k = pair_opened h b at u m n e ∙ ap (λ t. if t then Some (surrogate_pair_char h u, 11) else None) (⊎_elim (λ q. below u q) (λ q. above u q.1) k)
  where
    below : (u : ℕ) → u < 56320 → is_low u ≡ false
    below u q = grind (arith, nat_tests)

    above : (u : ℕ) → 57344 ≤ u → is_low u ≡ false
    above u q = grind (arith, nat_tests)

-- a pair
pub pair_is : (h : ℕ) (b : List ℕ) (at u c n : ℕ) → get_or b at 0 ≡ 92 → get_or b (at + 1) 0 ≡ 117 → Some u ≡ unit_at (drop (at + 2) b) → 56320 ≤ u → u < 57344 → c ≡ surrogate_pair_char h u → n ≡ 11 → pair_at h (drop at b) ≡ Some (c, n)
pair_is h b at u c n m k e lo hi v w =
    pair_opened h b at u m k e ∙ (ap (λ t. if t then Some (surrogate_pair_char h u, 11) else None) (low u lo hi) ∙ λ t. Some (sym v t, sym w t))
  where
    low : (u : ℕ) → 56320 ≤ u → u < 57344 → is_low u ≡ true
    low u p q = grind (arith, nat_tests)

code_opened : (b : List ℕ) (at u : ℕ) → Some u ≡ unit_at (drop at b) → code_at (drop at b) ≡ code_with u (drop (at + 4) b)
code_opened b at u e =
    let k : drop 4 (drop at b) ≡ drop (at + 4) b = drop-drop 4 at b ∙ ap (λ n. drop n b) (omega arith) in
    (λ t. option_and_then (λ u. code_with u (k t)) (sym e t))

-- a high unit needs its pair
pub code_high : (b : List ℕ) (at u : ℕ) → Some u ≡ unit_at (drop at b) → 55296 ≤ u → u < 56320 → code_at (drop at b) ≡ pair_at u (drop (at + 4) b)
code_high b at u e lo hi = code_opened b at u e ∙ ap (λ t. if t then pair_at u (drop (at + 4) b) else if is_low u then None else Some (u, 5)) (high u lo hi)
  where
    high : (u : ℕ) → 55296 ≤ u → u < 56320 → is_high u ≡ true
    high u p q = grind (arith, nat_tests)

-- a unit that is a character
pub code_is : (b : List ℕ) (at u c n : ℕ) → Some u ≡ unit_at (drop at b) → IsScalar u → c ≡ u → n ≡ 5 → code_at (drop at b) ≡ Some (c, n)
code_is b at u c n e s v w =
    code_opened b at u e
    ∙ (ap (λ t. if t then pair_at u (drop (at + 4) b) else if is_low u then None else Some (u, 5)) (no_high u s)
    ∙ (ap (λ t. if t then None else Some (u, 5)) (no_low u s) ∙ λ t. Some (sym v t, sym w t)))

-- a low unit alone
pub code_lone : (b : List ℕ) (at u : ℕ) → Some u ≡ unit_at (drop at b) → ((55296 ≤ u) × (56320 ≤ u)) ⊎ (u < 55296) → u < 65536 → OutOfScalarRange u → code_at (drop at b) ≡ None
code_lone b at u e k h o =
    code_opened b at u e
    ∙ (ap (λ t. if t then pair_at u (drop (at + 4) b) else if is_low u then None else Some (u, 5)) (⊎_elim (λ q. above u q.1) (λ q. below u q) k)
    ∙ ap (λ t. if t then None else Some (u, 5)) (⊎_elim (λ q. by_range k q) (λ q. absurd (omega (arith, q, h))) o))
  where
    below : (u : ℕ) → u < 55296 → is_high u ≡ false
    below u q = grind (arith, nat_tests)

    above : (u : ℕ) → 56320 ≤ u → is_high u ≡ false
    above u q = grind (arith, nat_tests)

    low : (u : ℕ) → 56320 ≤ u → u ≤ 57343 → is_low u ≡ true
    low u p q = grind (arith, nat_tests)

    by_range : ((55296 ≤ u) × (56320 ≤ u)) ⊎ (u < 55296) → (55296 ≤ u) × (u ≤ 57343) → is_low u ≡ true
    by_range (inl p) q = low u p.1 q.1
    by_range (inr p) q = absurd (omega (arith, p, q.0))

-- what a pair answers
pub code_by_pair : (b : List ℕ) (at u : ℕ) (r : Result (ℕ × ℕ) ErrorKind) → Some u ≡ unit_at (drop at b) → 55296 ≤ u → u < 56320 → IfOk r (λ p. (at + 4 < p.1) × (p.1 ≤ length b))
    → IfOk r (λ p. pair_at u (drop (at + 4) b) ≡ Some (p.0, p.1 - (at + 4) + 5)) → IfOk r (λ p. code_at (drop at b) ≡ Some (p.0, p.1 - at + 1))
code_by_pair b at u (Ok p) e lo hi w h = code_high b at u e lo hi ∙ (h ∙ ap (λ n. Some (p.0, n)) (omega (arith, w.0)))
code_by_pair b at u (Err x) e lo hi w h = tt

-- and where it fails
pub code_by_pair_err : (b : List ℕ) (at u : ℕ) (r : Result (ℕ × ℕ) ErrorKind) → Some u ≡ unit_at (drop at b) → 55296 ≤ u → u < 56320
    → OnErr r (pair_at u (drop (at + 4) b) ≡ None) → OnErr r (code_at (drop at b) ≡ None)
code_by_pair_err b at u (Ok p) e lo hi h = tt
code_by_pair_err b at u (Err x) e lo hi h = code_high b at u e lo hi ∙ h

escapes : (b : List ℕ) (at : ℕ) → escape_at (drop at b) ≡ (if get_or b at 0 == 117 then code_at (drop (at + 1) b) else option_map {U = ℕ × ℕ} (λ c. (c, 1)) (short_escape (get_or b at 0)))
escapes b at =
    let k : drop 1 (drop at b) ≡ drop (at + 1) b = drop-drop 1 at b ∙ ap (λ n. drop n b) (omega arith) in
    λ t. if first_at b at t == 117 then code_at (k t) else option_map {U = ℕ × ℕ} (λ c. (c, 1)) (short_escape (first_at b at t))

escape_u : (b : List ℕ) (at : ℕ) → get_or b at 0 ≡ 117 → escape_at (drop at b) ≡ code_at (drop (at + 1) b)
escape_u b at e = escapes b at ∙ ap (λ t. if t then code_at (drop (at + 1) b) else option_map {U = ℕ × ℕ} (λ c. (c, 1)) (short_escape (get_or b at 0))) (eq-eqb (get_or b at 0) 117 e)

escape_other : (b : List ℕ) (at : ℕ) → get_or b at 0 ≢ 117 → escape_at (drop at b) ≡ option_map {U = ℕ × ℕ} (λ c. (c, 1)) (short_escape (get_or b at 0))
escape_other b at e = escapes b at ∙ ap (λ t. if t then code_at (drop (at + 1) b) else option_map {U = ℕ × ℕ} (λ c. (c, 1)) (short_escape (get_or b at 0))) (no_test (get_or b at 0) 117 e)

-- what a unit answers
pub escape_by_code : (b : List ℕ) (at : ℕ) (r : Result (ℕ × ℕ) ErrorKind) → get_or b at 0 ≡ 117 → IfOk r (λ p. (at + 1 < p.1) × (p.1 ≤ length b))
    → IfOk r (λ p. code_at (drop (at + 1) b) ≡ Some (p.0, p.1 - (at + 1) + 1)) → IfOk r (λ p. escape_at (drop at b) ≡ Some (p.0, p.1 - at))
escape_by_code b at (Ok p) e w h = escape_u b at e ∙ (h ∙ ap (λ n. Some (p.0, n)) (omega (arith, w.0)))
escape_by_code b at (Err x) e w h = tt

-- and where it fails
pub escape_by_code_err : (b : List ℕ) (at : ℕ) (r : Result (ℕ × ℕ) ErrorKind) → get_or b at 0 ≡ 117 → OnErr r (code_at (drop (at + 1) b) ≡ None) → OnErr r (escape_at (drop at b) ≡ None)
escape_by_code_err b at (Ok p) e h = tt
escape_by_code_err b at (Err x) e h = escape_u b at e ∙ h

-- a short escape
pub escape_short : (b : List ℕ) (at c n : ℕ) → get_or b at 0 ≢ 117 → Some c ≡ short_escape (get_or b at 0) → n ≡ 1 → escape_at (drop at b) ≡ Some (c, n)
escape_short b at c n h e w = escape_other b at h ∙ (ap (λ o. option_map {U = ℕ × ℕ} (λ c. (c, 1)) o) (sym e) ∙ ap (λ n. Some (c, n)) (sym w))

-- no escape
pub escape_no : (b : List ℕ) (at : ℕ) → get_or b at 0 ≢ 117 → None ≡ short_escape (get_or b at 0) → escape_at (drop at b) ≡ None
escape_no b at h e = escape_other b at h ∙ ap (λ o. option_map {U = ℕ × ℕ} (λ c. (c, 1)) o) (sym e)
