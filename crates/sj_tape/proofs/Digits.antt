-- Digits, as many as there are, and what a word holds of them.
use Rattle.std.proofs.Common.{◌≡◌, ◌≢◌, Some, None, Option, MatchOption, ℕ, zero, suc, ◌++◌, mul-le-mul_right, length-drop, take-add, ◌+◌, ◌-◌, ◌*◌, ◌%◌, ◌^◌, ◌<◌, ◌≤◌, Bool, true, false, List, [], ◌∷◌, length, take, drop, get_or, cond, lit<, fold, refl, sym, ap, subst, ◌∙◌, arith, zero-mul}
use Rattle.std.specs.Prelude.{slice_range}
use Rattle.std.specs.List.{prefix_len}
use Rattle.std.specs.Option.{SomeIff}
use Rattle.std.specs.Char.{is_ascii_digit, digit_value}
use Rattle.std.specs.Str.Parse.{AllDigits, digits_value, digits_value_after}
use Rattle.std.proofs.Math.Nat.{pow-zero, pow-succ', pow-le-pow_right}
use Rattle.std.proofs.lemmas.Str.{digit_value_digit}
use Rattle.std.proofs.lemmas.Str.Parse.{digit_from_value}
use Rattle.std.proofs.lemmas.Int.Digits.{digits_value-lt}
use Rattle.std.proofs.lemmas.Bool.Decides.{nat_tests}
use Rattle.std.proofs.lemmas.List.{length-take-le, get_or-drop, drop-drop, take_all}
use Rattle.std.proofs.lemmas.List.Sums.{fold-append, prefix_len_passes, prefix_len-le-length}
use Rattle.sj_text_core.specs.Tree.{Tree}
use Rattle.sj_text_core.specs.Grammar.{value_of, number_of}
use Rattle.sj_text_core.specs.inner.Parse.{is_digit, digits_len, goes_on, numeral_at}
use Rattle.sj_text_core.proofs.parse.Numbers.{step, numeral_is, value_of_more}

digit_is : (c : ℕ) → is_ascii_digit c ≡ is_digit c
digit_is c = grind (arith, nat_tests)

-- the two ways to count digits
pub len_is : (b : List ℕ) → prefix_len is_ascii_digit b ≡ digits_len b
len_is [] = refl
len_is (c ∷ b) = ap (λ t. cond t (1 + prefix_len is_ascii_digit b) 0) (digit_is c) ∙ ap (λ n. cond (is_digit c) n 0) (omega (arith, len_is b))

small_value : (c : ℕ) → is_ascii_digit c ≡ true → (digit_value c < 10) × (digit_value c ≡ c - 48)
small_value c e = (low c e, value c e)
  where
    low : (c : ℕ) → is_ascii_digit c ≡ true → digit_value c < 10
    low c e = grind (arith, nat_tests)

    value : (c : ℕ) → is_ascii_digit c ≡ true → digit_value c ≡ c - 48
    value c e = grind (arith, nat_tests)

digit_range : (c : ℕ) → is_ascii_digit c ≡ true → (48 ≤ c) × (c ≤ 57)
digit_range c e = (low c e, high c e)
  where
    low : (c : ℕ) → is_ascii_digit c ≡ true → 48 ≤ c
    low c e = grind (arith, nat_tests)

    high : (c : ℕ) → is_ascii_digit c ≡ true → c ≤ 57
    high c e = grind (arith, nat_tests)

pub one_more : (n c : ℕ) (l : List ℕ) → take (1 + n) (c ∷ l) ≡ c ∷ take n l
one_more n c l = let e : 1 + n ≡ suc n = omega arith in ap (λ k. take k (c ∷ l)) e

pub all_digits : (l : List ℕ) → AllDigits 10 (take (prefix_len is_ascii_digit l) l)
all_digits [] = tt
all_digits (c ∷ l) = by_byte c l (is_ascii_digit c) refl (all_digits l)
  where
    by_byte : (c : ℕ) (l : List ℕ) (t : Bool) → is_ascii_digit c ≡ t → AllDigits 10 (take (prefix_len is_ascii_digit l) l) → AllDigits 10 (take (cond t (1 + prefix_len is_ascii_digit l) 0) (c ∷ l))
    by_byte c l true e h = subst (λ x. AllDigits 10 x) (sym (one_more (prefix_len is_ascii_digit l) c l)) ((small_value c e).0, h)
    by_byte c l false e h = tt

-- the two ways to read digits
value_is : (ds : List ℕ) (n : ℕ) → AllDigits 10 ds → digits_value_after 10 n ds ≡ fold step n ds
value_is [] n h = refl
value_is (c ∷ ds) n h =
    let e : n * 10 + digit_value c ≡ n * 10 + (c - 48) = omega (arith, digit_value_digit c (digit_from_value c h.0)) in
    value_is ds (n * 10 + digit_value c) h.1 ∙ ap (λ m. fold step m ds) e

-- what the digits of a run write, and the last 64 bits of it
pub run_value : (b : List ℕ) (at e n : ℕ) → at ≤ length b → e ≡ at + prefix_len is_ascii_digit (drop at b) → n ≡ digits_value 10 (slice_range b at e) % 2 ^ 64
    → (n ≡ value_of (slice_range b at e) % 2 ^ 64) × (value_of (slice_range b at e) < 10 ^ (e - at))
run_value b at e n within h k =
    let m : e - at ≡ prefix_len is_ascii_digit (drop at b) = omega (arith, h) in
    let ds = slice_range b at e in
    let all : AllDigits 10 ds = subst (λ (j : ℕ). AllDigits 10 (take j (drop at b))) (sym m) (all_digits (drop at b)) in
    let len : length ds ≡ e - at = length-take-le (e - at) (drop at b) (omega (arith, m, prefix_len-le-length is_ascii_digit (drop at b))) in
    let lt : digits_value 10 ds < 10 ^ (e - at) = subst (λ (j : ℕ). digits_value 10 ds < 10 ^ j) len (digits_value-lt 10 ds all) in
    let is : digits_value 10 ds ≡ value_of ds = value_is ds 0 all in
    (k ∙ ap (λ x. x % 2 ^ 64) is, subst (λ (x : ℕ). x < 10 ^ (e - at)) is lt)

-- each byte is a digit
pub each_digit : (ds : List ℕ) → ((k : ℕ) → k < length ds → (48 ≤ get_or ds k 0) × (get_or ds k 0 ≤ 57)) → AllDigits 10 ds
each_digit [] h = tt
each_digit (c ∷ ds) h = (low c (h 0 (omega arith)).0 (h 0 (omega arith)).1, each_digit ds (λ k l. h (suc k) (omega (arith, l))))
  where
    low : (c : ℕ) → 48 ≤ c → c ≤ 57 → digit_value c < 10
    low c l m = grind (arith, nat_tests)

-- digits behind a number
pub value_after : (ds : List ℕ) (n : ℕ) → fold step n ds ≡ n * 10 ^ length ds + fold step 0 ds
value_after [] n = omega (arith, ap (λ x. n * x) (pow-zero 10))
value_after (c ∷ ds) n = omega (arith, ap (λ x. n * x) (pow-succ' 10 (length ds)), value_after ds (n * 10 + (c - 48)), value_after ds (0 * 10 + (c - 48)))

-- digits write less than their count allows
pub value_below : (ds : List ℕ) → AllDigits 10 ds → value_of ds < 10 ^ length ds
value_below ds h = subst (λ (x : ℕ). x < 10 ^ length ds) (value_is ds 0 h) (digits_value-lt 10 ds h)

-- at most 19 digits fit 64 bits
pub value_few : (ds : List ℕ) (low : ℕ) → AllDigits 10 ds → length ds ≤ 19 → low ≡ value_of ds % 2 ^ 64 → low ≡ value_of ds
value_few ds low h few e =
    let big : 10 ^ length ds ≤ 10 ^ 19 = pow-le-pow_right {n = 10} (lit< tt) {i = length ds} {j = 19} few in
    omega (arith, e, value_below ds h, big)

-- and 20 where the first is 1 and what is left of 64 bits has 20 digits, too
pub value_twenty : (ds : List ℕ) (low : ℕ) → AllDigits 10 ds → length ds ≡ 20 → get_or ds 0 0 ≡ 49 → 10 ^ 19 ≤ low → low ≡ value_of ds % 2 ^ 64 → low ≡ value_of ds
value_twenty [] low h n one big e = absurd (omega (arith, n))
value_twenty (c ∷ ds) low h n one big e =
    let len : length ds ≡ 19 = omega (arith, n) in
    let v : value_of (c ∷ ds) ≡ (0 * 10 + (c - 48)) * 10 ^ length ds + value_of ds = value_after ds (0 * 10 + (c - 48)) in
    let k : (0 * 10 + (c - 48)) * 10 ^ length ds ≡ 10 ^ 19 = ap (λ x. x * 10 ^ length ds) (omega (arith, one)) ∙ (ap (λ j. 1 * 10 ^ j) len ∙ omega arith) in
    let b : value_of ds < 10 ^ 19 = subst (λ (j : ℕ). value_of ds < 10 ^ j) len (value_below ds h.1) in
    omega (arith, v, k, b, e, big)

-- each byte of the run is a digit
pub digit_at : (b : List ℕ) (at e k : ℕ) → e ≡ at + prefix_len is_ascii_digit (drop at b) → at ≤ k → k < e → (48 ≤ get_or b k 0) × (get_or b k 0 ≤ 57)
digit_at b at e k h l m =
    let same : get_or (drop at b) (k - at) 0 ≡ get_or b k 0 = get_or-drop at b (k - at) 0 ∙ ap (λ n. get_or b n 0) (omega (arith, l)) in
    digit_range _ (subst (λ x. is_ascii_digit x ≡ true) same (prefix_len_passes is_ascii_digit (drop at b) (k - at) 0 (omega (arith, h, l, m))))

-- one numeral from a place on
pub numeral_reads : (minus : Bool) (b : List ℕ) (start e : ℕ) (t : Tree) → start ≤ e → digits_len (drop start b) ≡ e - start → e - start ≢ 0 → (get_or b start 0 ≡ 48 → e - start ≤ 1)
    → goes_on (drop e b) ≡ false → number_of minus (value_of (slice_range b start e)) ≡ Some t → numeral_at minus (digits_len (drop start b)) (drop start b) ≡ Some (t, drop e b)
numeral_reads minus b start e t h n some plain ends k =
    let back : drop (e - start) (drop start b) ≡ drop e b = drop-drop (e - start) start b ∙ ap (λ m. drop m b) (omega (arith, h)) in
    ap (λ m. numeral_at minus m (drop start b)) n
    ∙ (numeral_is minus (e - start) (drop start b) t some (λ z. plain (sym (first_at b start) ∙ z)) (ap (λ l. goes_on l) back ∙ ends) k ∙ ap (λ l. Some (t, l)) back)
  where
    first_at : (b : List ℕ) (start : ℕ) → get_or (drop start b) 0 0 ≡ get_or b start 0
    first_at b start = get_or-drop start b 0 0 ∙ ap (λ n. get_or b n 0) (omega arith)

-- each of the digits is counted
pub all_count : (ds : List ℕ) → AllDigits 10 ds → prefix_len is_ascii_digit ds ≡ length ds
all_count [] h = refl
all_count (c ∷ ds) h = ap (λ t. cond t (1 + prefix_len is_ascii_digit ds) 0) (passes c (digit_from_value c h.0)) ∙ ap (λ n. 1 + n) (all_count ds h.1) ∙ omega arith
  where
    passes : (c : ℕ) → (48 ≤ c) × (c ≤ 57) → is_ascii_digit c ≡ true
    passes c h = inside c h.0 h.1
      where
        inside : (c : ℕ) → 48 ≤ c → c ≤ 57 → is_ascii_digit c ≡ true
        inside c l m = grind (arith, nat_tests)

pub all_take : (ds : List ℕ) (n : ℕ) → AllDigits 10 ds → AllDigits 10 (take n ds)
all_take ds zero h = tt
all_take [] (suc n) h = tt
all_take (c ∷ ds) (suc n) h = (h.0, all_take ds n h.1)

all_drop : (ds : List ℕ) (n : ℕ) → AllDigits 10 ds → AllDigits 10 (drop n ds)
all_drop ds zero h = h
all_drop [] (suc n) h = tt
all_drop (c ∷ ds) (suc n) h = all_drop ds n h.1

-- each byte of a part is a digit
pub each_of : (ds : List ℕ) → AllDigits 10 ds → (k : ℕ) → k < length ds → (48 ≤ get_or ds k 0) × (get_or ds k 0 ≤ 57)
each_of [] h k l = absurd (omega (arith, l))
each_of (c ∷ ds) h zero l = digit_from_value c h.0
each_of (c ∷ ds) h (suc k) l = each_of ds h.1 k (omega (arith, l))

pub part_digits : (ds : List ℕ) (i j : ℕ) → AllDigits 10 ds → (k : ℕ) → k < length (slice_range ds i j) → (48 ≤ get_or (slice_range ds i j) k 0) × (get_or (slice_range ds i j) k 0 ≤ 57)
part_digits ds i j h = each_of (slice_range ds i j) (all_take (drop i ds) (j - i) (all_drop ds i h))

-- a word of digits
pub word_is : (ds : List ℕ) (e n : ℕ) → AllDigits 10 ds → e ≡ 0 + prefix_len is_ascii_digit (drop 0 ds) → n ≡ (0 * 10 ^ (e - 0) + digits_value 10 (slice_range ds 0 e)) % 2 ^ 64 → length ds ≤ 19 → n ≡ value_of ds
word_is ds e n h at is few =
    let k : e ≡ length ds = omega (arith, at, all_count ds h) in
    let r : slice_range ds 0 e ≡ ds = take_all (e - 0) ds (omega (arith, k)) in
    value_few ds n h few ((run_value ds 0 e n (omega arith) at (is ∙ ap (λ x. x % 2 ^ 64) (omega (arith, zero-mul (10 ^ (e - 0)))))).0 ∙ ap (λ l. value_of l % 2 ^ 64) r)

-- digits in two words
pub two_words : (ds : List ℕ) (mid a b t : ℕ) → 19 ≤ mid → mid ≤ length ds → a ≡ value_of (take 19 ds) → t ≡ 10 ^ (mid - 19) → b ≡ value_of (slice_range ds 19 mid) → a * t + b ≡ value_of (take mid ds)
two_words ds mid a b t low high e f g =
    let tail = slice_range ds 19 mid in
    let len : length tail ≡ mid - 19 = length-take-le (mid - 19) (drop 19 ds) (omega (arith, high, length-drop 19 ds)) in
    let parts : take mid ds ≡ take 19 ds ++ tail = ap (λ n. take n ds) (omega (arith, low)) ∙ take-add 19 (mid - 19) ds in
    let v : value_of (take mid ds) ≡ value_of (take 19 ds) * 10 ^ length tail + value_of tail = ap (λ l. value_of l) parts ∙ (fold-append step 0 (take 19 ds) tail ∙ value_after tail (value_of (take 19 ds))) in
    let w : a * t ≡ value_of (take 19 ds) * 10 ^ length tail = (λ i. e i * f i) ∙ ap (λ n. value_of (take 19 ds) * 10 ^ n) (sym len) in
    omega (arith, v, w, g)

-- one digit more
pub one_more_digit : (ds : List ℕ) (i n : ℕ) → length ds ≡ i + 1 → n ≡ value_of (take i ds) → n * 10 + (get_or ds i 0 - 48) ≡ value_of ds
one_more_digit ds i n h e = omega (arith, ap (λ (m : ℕ). m * 10) e, value_of_more ds i (omega (arith, h)), ap (λ l. value_of l) (take_all (i + 1) ds (omega (arith, h))))

-- 40 digits pass 128 bits where the first is no zero
pub value_many : (ds : List ℕ) → ((k : ℕ) → k < length ds → (48 ≤ get_or ds k 0) × (get_or ds k 0 ≤ 57)) → get_or ds 0 0 ≢ 48 → 39 < length ds → 2 ^ 128 ≤ value_of ds
value_many [] h z n = absurd (omega (arith, n))
value_many (c ∷ ds) h z n =
    let v : value_of (c ∷ ds) ≡ (0 * 10 + (c - 48)) * 10 ^ length ds + value_of ds = value_after ds (0 * 10 + (c - 48)) in
    let big : 10 ^ 39 ≤ 10 ^ length ds = pow-le-pow_right {n = 10} (lit< tt) {i = 39} {j = length ds} (omega (arith, n)) in
    let one : 1 * 10 ^ length ds ≤ (0 * 10 + (c - 48)) * 10 ^ length ds = mul-le-mul_right (10 ^ length ds) (omega (arith, z, (h 0 (omega arith)).0)) in
    omega (arith, v, one, big)

-- a checked sum by what it is to be
pub checked : (o : Option ℕ) (s v : ℕ) → s ≡ v → SomeIff o (s < 2 ^ 128) s → MatchOption o (2 ^ 128 ≤ v) (λ n. n ≡ v)
checked None s v e h = omega (arith, e, h)
checked (Some x) s v e h = h.1 ∙ e
