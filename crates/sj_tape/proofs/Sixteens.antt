-- Runs of digits, sixteen at a step.
use Rattle.std.proofs.Common.{◌≡◌, ◌≢◌, ℕ, zero, suc, ◌+◌, ◌-◌, ◌*◌, ◌/◌, ◌%◌, ◌^◌, ◌<◌, ◌≤◌, Bool, true, not, cond, ltb, ◌&&◌, ◌||◌, T, List, [], ◌∷◌, ◌++◌, map, length, take, drop, get_or, replicate, w8, Fits, refl, sym, ap, ap₂, ◌∙◌, subst, inl, inr, arith, lit<, drop-drop, take-add}
use Rattle.std.proofs.Math.Nat.{pow-zero, pow-succ', pow-le-pow_right}
use Rattle.std.proofs.lemmas.Bool.{cases_lt}
use Rattle.std.proofs.lemmas.Bool.Decides.{nat_tests}
use Rattle.std.proofs.lemmas.List.{ext_get_or, length-take, length-take-le, get_or-drop, take-map, take-take}
use Rattle.std.proofs.lemmas.Str.{digit_value_digit}
use Rattle.std.proofs.lemmas.Str.Parse.{digit_from_value}
use Rattle.std.proofs.lemmas.Int.Digits.{digits_value-lt, digits_value_is}
use Rattle.std.proofs.lemmas.List.FromFn.{length-map-range_with_len, get_or-map-range_with_len}
use Rattle.std.proofs.lemmas.List.Sums.{prefix_len-le-length}
use Rattle.std.proofs.lemmas.Simd.{swz_l, SwzOk, SwzOk-from_Each1, map-map, trailing_mask_l, length-chunk}
use Rattle.std.proofs.lemmas.Nat.{and_mask}
use Rattle.std.specs.Prelude.{⊤, slice_range, bit_and}
use Rattle.std.specs.List.{prefix_len, range_with_len}
use Rattle.std.specs.Char.{is_ascii_digit, digit_value}
use Rattle.std.specs.Str.Parse.{AllDigits, digits_value, digits_value_after}
use Rattle.std.specs.Int.Digits.{number_from_digits}
use lib.Count.{count_trailing_zeros}
use lib.Lanes.{chunk, mask_l, number_l, digits_l, zip2, dots, Each1}
use mir.Val.{zeroes}
use Rattle.sj_print.proofs.Runs.{run_through, run_stops}
use Rattle.sj_print.proofs.Lanes.{both}
use Rattle.sj_tape.proofs.Digits.{all_digits, all_take}
use Rattle.sj_tape.specs.inner.Lanes.{lane_of, is_other}

abbrev Each : (ℕ → Type 0) → ℕ → Type 0
Each P zero = ⊤
Each P (suc n) = P n × Each P n

each : (P : ℕ → Type 0) (n k : ℕ) → Each P n → k < n → P k
each P zero k h l = absurd (omega arith)
each P (suc n) k h l = elim (cases_lt k n) [ inl a ↦ each P n k h.1 a | inr a ↦ let e : n ≡ k = omega arith in subst P e h.0 ]

abbrev listed : (ℕ → ℕ) → List ℕ
listed f = map f (range_with_len 0 16)

-- a fact of each sixteen numbers, from the same of sixteen numbers written out
spelled : (P : List ℕ → Type 0) → ((f : ℕ → ℕ) → P (listed f)) → (xs : List ℕ) → length xs ≡ 16 → P xs
spelled P h xs long =
    let f = λ (k : ℕ). get_or xs k 0 in
    let many = length-map-range_with_len f 0 16 in
    subst P (ext_get_or 0 _ xs (many ∙ sym long) (λ i l. get_or-map-range_with_len f 0 16 i i 0 (omega arith) (omega arith))) (h f)

-- ---- the lanes of a run at the end, behind zeros
abbrev ends : List ℕ
ends = 255 ∷ 255 ∷ 255 ∷ 255 ∷ 255 ∷ 255 ∷ 255 ∷ 255 ∷ 255 ∷ 255 ∷ 255 ∷ 255 ∷ 255 ∷ 255 ∷ 255 ∷ 255 ∷ 0 ∷ 1 ∷ 2 ∷ 3 ∷ 4 ∷ 5 ∷ 6 ∷ 7 ∷ 8 ∷ 9 ∷ 10 ∷ 11 ∷ 12 ∷ 13 ∷ 14 ∷ 15 ∷ []

abbrev row : ℕ → List ℕ
row n = chunk 0 16 (take (32 - n) (drop n ends))

abbrev all_lanes : List ℕ → Bool
all_lanes [] = true
all_lanes (j ∷ js) = (zeroes 16 w8 j || ltb j 16) && all_lanes js

each_lane : (js : List ℕ) → T (all_lanes js) → Each1 (λ j. T (zeroes 16 w8 j || ltb j 16)) js
each_lane [] h = tt
each_lane (j ∷ js) h = ((both _ _ h).0, each_lane js (both (zeroes 16 w8 j || ltb j 16) (all_lanes js) h).1)

abbrev Moved : List ℕ → ℕ → Type 0
Moved xs n = T (all_lanes (row n)) × (length (row n) ≡ 16) × (swz_l w8 16 xs 0 (row n) ≡ replicate (16 - n) 0 ++ take n xs)

moved_is : (xs : List ℕ) (n : ℕ) → length xs ≡ 16 → n ≤ 16 → Moved xs n
moved_is xs n long le =
    spelled (λ xs. Moved xs n) (λ f. each (Moved (listed f)) 17 n
    ((tt, refl, refl), ((tt, refl, refl), ((tt, refl, refl), ((tt, refl, refl), ((tt, refl, refl), ((tt, refl, refl), ((tt, refl, refl), ((tt, refl, refl), ((tt, refl, refl), ((tt, refl, refl), ((tt, refl, refl), ((tt, refl, refl), ((tt, refl, refl), ((tt, refl, refl), ((tt, refl, refl), ((tt, refl, refl), ((tt, refl, refl), tt)))))))))))))))))
    (omega arith)) xs long

pub moved_ok : (xs : List ℕ) (n : ℕ) → length xs ≡ 16 → n ≤ 16 → SwzOk w8 16 16 0 (row n)
moved_ok xs n long le =
    let m = moved_is xs n long le in
    SwzOk-from_Each1 w8 16 1 16 0 (row n) refl (omega (arith, m.1)) (each_lane (row n) m.0)

pub moved_lanes : (xs : List ℕ) (n : ℕ) → length xs ≡ 16 → n ≤ 16 → swz_l w8 16 xs 0 (row n) ≡ replicate (16 - n) 0 ++ take n xs
moved_lanes xs n long le = (moved_is xs n long le).2

-- ---- the number of the lanes
abbrev plus : ℕ → ℕ → ℕ
plus a b = (a + b) % 2 ^ 32

abbrev times : ℕ → ℕ → ℕ
times a b = a * b % 2 ^ 32

abbrev tens : List ℕ
tens = 10 ∷ 1 ∷ 0 ∷ 0 ∷ 10 ∷ 1 ∷ 0 ∷ 0 ∷ 10 ∷ 1 ∷ 0 ∷ 0 ∷ 10 ∷ 1 ∷ 0 ∷ 0 ∷ []

abbrev ones : List ℕ
ones = 0 ∷ 0 ∷ 10 ∷ 1 ∷ 0 ∷ 0 ∷ 10 ∷ 1 ∷ 0 ∷ 0 ∷ 10 ∷ 1 ∷ 0 ∷ 0 ∷ 10 ∷ 1 ∷ []

abbrev pub by_fours : List ℕ → List ℕ
by_fours xs = number_from_digits 10 (take 4 xs) ∷ number_from_digits 10 (slice_range xs 4 8) ∷ number_from_digits 10 (slice_range xs 8 12) ∷ number_from_digits 10 (slice_range xs 12 16) ∷ []

four : (a b c d : ℕ) → a < 2 ^ 8 → b < 2 ^ 8 → c < 2 ^ 8 → d < 2 ^ 8
    → plus (times (a * 10 + b * 1 + (c * 0 + d * 0)) 100) (a * 0 + b * 0 + (c * 10 + d * 1)) ≡ (((0 * 10 + a) * 10 + b) * 10 + c) * 10 + d
four a b c d p q r s = omega arith

pub fours_are : (xs : List ℕ) → length xs ≡ 16 → Each1 (Fits w8) xs → zip2 plus (zip2 times (dots xs tens) (100 ∷ 100 ∷ 100 ∷ 100 ∷ [])) (dots xs ones) ≡ by_fours xs
fours_are xs long fits =
    spelled (λ xs. Each1 (Fits w8) xs → zip2 plus (zip2 times (dots xs tens) (100 ∷ 100 ∷ 100 ∷ 100 ∷ [])) (dots xs ones) ≡ by_fours xs) (λ f h.
    let a = four (f 0) (f 1) (f 2) (f 3) h.0.fits h.1.0.fits h.1.1.0.fits h.1.1.1.0.fits in
    let g = h.1.1.1.1 in
    let b = four (f 4) (f 5) (f 6) (f 7) g.0.fits g.1.0.fits g.1.1.0.fits g.1.1.1.0.fits in
    let k = g.1.1.1.1 in
    let c = four (f 8) (f 9) (f 10) (f 11) k.0.fits k.1.0.fits k.1.1.0.fits k.1.1.1.0.fits in
    let l = k.1.1.1.1 in
    let d = four (f 12) (f 13) (f 14) (f 15) l.0.fits l.1.0.fits l.1.1.0.fits l.1.1.1.0.fits in
    λ i. a i ∷ b i ∷ c i ∷ d i ∷ []) xs long fits

-- ---- two lanes of four digits in one
abbrev halves : List ℕ → List ℕ
halves fours = digits_l (2 ^ 64) 2 (number_l 256 (digits_l 256 16 (number_l (2 ^ 32) fours)))

bytes_back : (n m : ℕ) → m < 256 ^ n → number_l 256 (digits_l 256 n m) ≡ m
bytes_back zero m h = omega (arith, h, pow-zero 256)
bytes_back (suc n) m h =
    let p : 256 ^ suc n ≡ 256 * 256 ^ n = pow-succ' 256 n in
    omega (arith, bytes_back n (m / 256) (omega (arith, h, p)))

halves_are : (a b c d : ℕ) → a < 300000 → b < 300000 → c < 300000 → d < 300000 → halves (a ∷ b ∷ c ∷ d ∷ []) ≡ (a + 2 ^ 32 * b) ∷ (c + 2 ^ 32 * d) ∷ []
halves_are a b c d p q r s =
    let all : ℕ = a + 2 ^ 32 * (b + 2 ^ 32 * (c + 2 ^ 32 * (d + 2 ^ 32 * 0))) in
    let low : all % 2 ^ 64 ≡ a + 2 ^ 32 * b = omega arith in
    let high : all / 2 ^ 64 % 2 ^ 64 ≡ c + 2 ^ 32 * d = omega arith in
    ap (digits_l (2 ^ 64) 2) (bytes_back 16 all (omega arith)) ∙ (λ i. low i ∷ high i ∷ [])

abbrev wide_plus : ℕ → ℕ → ℕ
wide_plus a b = (a + b) % 2 ^ 64

abbrev wide_times : ℕ → ℕ → ℕ
wide_times a b = a * b % 2 ^ 64

abbrev shifted : ℕ → ℕ → ℕ
shifted a b = a / 2 ^ b

abbrev eights_of : List ℕ → List ℕ
eights_of xs = zip2 wide_plus (zip2 wide_times (zip2 bit_and xs (4294967295 ∷ 4294967295 ∷ [])) (10000 ∷ 10000 ∷ [])) (zip2 shifted xs (32 ∷ 32 ∷ []))

eight : (a b : ℕ) → a < 300000 → b < 300000 → wide_plus (wide_times (bit_and (a + 2 ^ 32 * b) 4294967295) 10000) (shifted (a + 2 ^ 32 * b) 32) ≡ a * 10000 + b
eight a b p q = omega (arith, and_mask (a + 2 ^ 32 * b) 32)

two_eights : (a b c d : ℕ) → a < 300000 → b < 300000 → c < 300000 → d < 300000 → eights_of (halves (a ∷ b ∷ c ∷ d ∷ [])) ≡ (a * 10000 + b) ∷ (c * 10000 + d) ∷ []
two_eights a b c d p q r s = ap eights_of (halves_are a b c d p q r s) ∙ (λ i. eight a b p q i ∷ eight c d r s i ∷ [])

abbrev pub by_eights : List ℕ → List ℕ
by_eights xs = number_from_digits 10 (take 8 xs) ∷ number_from_digits 10 (slice_range xs 8 16) ∷ []

small : (a b c d : ℕ) → a < 2 ^ 8 → b < 2 ^ 8 → c < 2 ^ 8 → d < 2 ^ 8 → (((0 * 10 + a) * 10 + b) * 10 + c) * 10 + d < 300000
small a b c d p q r s = omega arith

pub eights_are : (xs fours : List ℕ) → length xs ≡ 16 → Each1 (Fits w8) xs → fours ≡ by_fours xs → eights_of (halves fours) ≡ by_eights xs
eights_are xs fours long fits e =
    ap (λ l. eights_of (halves l)) e ∙ spelled (λ xs. Each1 (Fits w8) xs → eights_of (halves (by_fours xs)) ≡ by_eights xs) (λ f h.
    let g = h.1.1.1.1 in
    let k = g.1.1.1.1 in
    let l = k.1.1.1.1 in
    let parts = by_fours (listed f) in
    let is = two_eights (get_or parts 0 0) (get_or parts 1 0) (get_or parts 2 0) (get_or parts 3 0)
    (small (f 0) (f 1) (f 2) (f 3) h.0.fits h.1.0.fits h.1.1.0.fits h.1.1.1.0.fits)
    (small (f 4) (f 5) (f 6) (f 7) g.0.fits g.1.0.fits g.1.1.0.fits g.1.1.1.0.fits)
    (small (f 8) (f 9) (f 10) (f 11) k.0.fits k.1.0.fits k.1.1.0.fits k.1.1.1.0.fits)
    (small (f 12) (f 13) (f 14) (f 15) l.0.fits l.1.0.fits l.1.1.0.fits l.1.1.1.0.fits) in
    let first : get_or parts 0 0 * 10000 + get_or parts 1 0 ≡ number_from_digits 10 (take 8 (listed f)) = omega arith in
    let second : get_or parts 2 0 * 10000 + get_or parts 3 0 ≡ number_from_digits 10 (slice_range (listed f) 8 16) = omega arith in
    is ∙ (λ i. first i ∷ second i ∷ [])) xs long fits

abbrev Sixteen : List ℕ → List ℕ → Type 0
Sixteen xs r = (get_or r 0 0 < 2 ^ 32) × (get_or r 1 0 < 2 ^ 32) × (get_or r 0 0 * 100000000 + get_or r 1 0 ≡ number_from_digits 10 xs)

small_eight : (a b c d e f g h : ℕ) → a < 2 ^ 8 → b < 2 ^ 8 → c < 2 ^ 8 → d < 2 ^ 8 → e < 2 ^ 8 → f < 2 ^ 8 → g < 2 ^ 8 → h < 2 ^ 8
    → (((((((0 * 10 + a) * 10 + b) * 10 + c) * 10 + d) * 10 + e) * 10 + f) * 10 + g) * 10 + h < 2 ^ 32
small_eight a b c d e f g h p q r s t u v w = omega arith

pub sixteen_is : (xs r : List ℕ) → length xs ≡ 16 → Each1 (Fits w8) xs → r ≡ by_eights xs → Sixteen xs r
sixteen_is xs r long fits e =
    subst (λ r. Sixteen xs r) (sym e) (spelled (λ xs. Each1 (Fits w8) xs → Sixteen xs (by_eights xs)) (λ f h.
    let g = h.1.1.1.1 in
    let k = g.1.1.1.1 in
    let l = k.1.1.1.1 in (
      small_eight (f 0) (f 1) (f 2) (f 3) (f 4) (f 5) (f 6) (f 7) h.0.fits h.1.0.fits h.1.1.0.fits h.1.1.1.0.fits g.0.fits g.1.0.fits g.1.1.0.fits g.1.1.1.0.fits,
      small_eight (f 8) (f 9) (f 10) (f 11) (f 12) (f 13) (f 14) (f 15) k.0.fits k.1.0.fits k.1.1.0.fits k.1.1.1.0.fits l.0.fits l.1.0.fits l.1.1.0.fits l.1.1.1.0.fits,
      omega arith,
    )) xs long fits)

-- ---- digits in lanes
lane_is : (c : ℕ) → (48 ≤ c) × (c ≤ 57) → lane_of c ≡ digit_value c
lane_is c h = omega (arith, digit_value_digit c h)

no_other : (c : ℕ) → c < 256 → is_ascii_digit c ≡ not (is_other (lane_of c))
no_other c h = grind (arith, nat_tests)

abbrev in_lane : ℕ → Bool
in_lane c = is_other (lane_of c)

abbrev Bytes : List ℕ → Type 0
Bytes xs = (k : ℕ) → Fits w8 (get_or xs k 0)

-- the two ways to count the digits of a run
run_is : (xs : List ℕ) → Bytes xs → prefix_len is_ascii_digit xs ≡ prefix_len (λ c. not (in_lane c)) xs
run_is [] h = refl
run_is (c ∷ xs) h = ap₂ (λ t n. cond t (1 + n) 0) (no_other c (h 0).fits) (run_is xs (λ k. h (suc k)))

run_from : (xs : List ℕ) (i : ℕ) → Bytes xs → prefix_len is_ascii_digit (drop i xs) ≡ prefix_len (λ c. not (in_lane c)) (drop i xs)
run_from xs i h = run_is (drop i xs) (λ k. subst (λ x. Fits w8 x) (sym (get_or-drop i xs k 0)) (h (i + k)))

mask_is : (xs : List ℕ) → mask_l (map is_other (map lane_of xs)) ≡ mask_l (map in_lane xs)
mask_is xs = ap mask_l (map-map is_other lane_of xs)

pub run_through_lanes : (b : List ℕ) (at m : ℕ) → Bytes b → at + 16 ≤ length b → m ≡ mask_l (map is_other (map lane_of (take 16 (drop at b)))) → m ≡ 0
    → prefix_len is_ascii_digit (drop at b) ≡ 16 + prefix_len is_ascii_digit (drop (at + 16) b)
run_through_lanes b at m bytes room e none =
    omega (arith, run_from b at bytes, run_from b (at + 16) bytes, run_through in_lane (λ c. not (in_lane c)) (λ c. refl) b at 16 room (sym (mask_is (take 16 (drop at b))) ∙ (sym e ∙ none)))

pub run_in_lanes : (b : List ℕ) (at m : ℕ) → Bytes b → at + 16 ≤ length b → m ≡ mask_l (map is_other (map lane_of (take 16 (drop at b)))) → m ≢ 0
    → (prefix_len is_ascii_digit (drop at b) ≡ count_trailing_zeros 64 m) × (count_trailing_zeros 64 m ≤ 16)
run_in_lanes b at m bytes room e some =
    let c = take 16 (drop at b) in
    let s : m ≡ mask_l (map in_lane c) = e ∙ mask_is c in
    let pos : 0 < mask_l (map in_lane c) = omega (arith, s, some) in
    let z : count_trailing_zeros 64 m ≡ count_trailing_zeros 64 (mask_l (map in_lane c)) = ap (count_trailing_zeros 64) s in
    let long : length c ≡ 16 = length-chunk at 16 b room in
    let stop = run_stops in_lane (λ x. not (in_lane x)) (λ x. refl) b at 16 room (omega arith) pos in
    let first = trailing_mask_l in_lane 64 c (omega (arith, long)) pos in
    (run_from b at bytes ∙ (stop ∙ sym z), omega (arith, z, first, long, prefix_len-le-length (λ x. not (in_lane x)) c))

-- ---- what the lanes write
zeros_before : (n : ℕ) (ds : List ℕ) → number_from_digits 10 (replicate n 0 ++ ds) ≡ number_from_digits 10 ds
zeros_before zero ds = refl
zeros_before (suc n) ds = zeros_before n ds

lanes_are : (ds : List ℕ) → AllDigits 10 ds → map lane_of ds ≡ map digit_value ds
lanes_are [] h = refl
lanes_are (c ∷ ds) h = ap₂ (λ x xs. x ∷ xs) (lane_is c (digit_from_value c h.0)) (lanes_are ds h.1)

front_digits : (xs : List ℕ) (n : ℕ) → n ≤ prefix_len is_ascii_digit xs → AllDigits 10 (take n xs)
front_digits xs n le = subst (λ ys. AllDigits 10 ys) (take-take n (prefix_len is_ascii_digit xs) xs le) (all_take (take (prefix_len is_ascii_digit xs) xs) n (all_digits xs))

front_number : (xs : List ℕ) (n : ℕ) → n ≤ prefix_len is_ascii_digit xs → number_from_digits 10 (map lane_of (take n xs)) ≡ digits_value 10 (take n xs)
front_number xs n le = ap (number_from_digits 10) (lanes_are (take n xs) (front_digits xs n le)) ∙ sym (digits_value_is 10 (take n xs))

take_in : (n : ℕ) (xs : List ℕ) → n ≤ 16 → take n (map lane_of (take 16 xs)) ≡ map lane_of (take n xs)
take_in n xs le = take-map lane_of n (take 16 xs) ∙ ap (map lane_of) (take-take n 16 xs le)

-- the digits of a short run
pub short_run_is : (b : List ℕ) (at n v : ℕ) → n ≡ prefix_len is_ascii_digit (drop at b) → n ≤ 16 → v ≡ number_from_digits 10 (replicate (16 - n) 0 ++ take n (map lane_of (take 16 (drop at b))))
    → v ≡ digits_value 10 (slice_range b at (at + n)) % 2 ^ 64
short_run_is b at n v e le h =
    let ds = drop at b in
    let is : v ≡ digits_value 10 (take n ds) = h ∙ (zeros_before (16 - n) _ ∙ (ap (number_from_digits 10) (take_in n ds le) ∙ front_number ds n (omega (arith, e)))) in
    let lt : digits_value 10 (take n ds) < 10 ^ length (take n ds) = digits_value-lt 10 (take n ds) (front_digits ds n (omega (arith, e))) in
    let few : 10 ^ length (take n ds) ≤ 10 ^ 16 = pow-le-pow_right {n = 10} (lit< tt) {i = length (take n ds)} {j = 16} (omega (arith, le, length-take n ds)) in
    let same : digits_value 10 (slice_range b at (at + n)) ≡ digits_value 10 (take n ds) = ap (λ k. digits_value 10 (take k ds)) (omega arith) in
    omega (arith, is, lt, few, same)

-- digits behind a number
value_behind : (ds : List ℕ) (n : ℕ) → digits_value_after 10 n ds ≡ n * 10 ^ length ds + digits_value_after 10 0 ds
value_behind [] n = omega (arith, ap (λ x. n * x) (pow-zero 10))
value_behind (c ∷ ds) n = omega (arith, ap (λ x. n * x) (pow-succ' 10 (length ds)), value_behind ds (n * 10 + digit_value c), value_behind ds (0 * 10 + digit_value c))

value_append : (xs ys : List ℕ) (n : ℕ) → digits_value_after 10 n (xs ++ ys) ≡ digits_value_after 10 (digits_value_after 10 n xs) ys
value_append [] ys n = refl
value_append (x ∷ xs) ys n = value_append xs ys (n * 10 + digit_value x)

-- the digits of a long one
pub long_run_is : (b : List ℕ) (at e v w : ℕ) → at + 16 ≤ length b → prefix_len is_ascii_digit (drop at b) ≡ 16 + prefix_len is_ascii_digit (drop (at + 16) b)
    → e ≡ at + 16 + prefix_len is_ascii_digit (drop (at + 16) b) → v ≡ number_from_digits 10 (map lane_of (take 16 (drop at b)))
    → w ≡ (v * 10 ^ (e - (at + 16)) + digits_value 10 (slice_range b (at + 16) e)) % 2 ^ 64 → w ≡ digits_value 10 (slice_range b at e) % 2 ^ 64
long_run_is b at e v w room long end h k =
    let m : ℕ = prefix_len is_ascii_digit (drop (at + 16) b) in
    let ds = drop at b in
    let tail = slice_range b (at + 16) e in
    let is : v ≡ digits_value 10 (take 16 ds) = h ∙ front_number ds 16 (omega (arith, long)) in
    let count : length tail ≡ e - (at + 16) = length-take-le (e - (at + 16)) (drop (at + 16) b) (omega (arith, end, prefix_len-le-length is_ascii_digit (drop (at + 16) b))) in
    let behind : drop 16 ds ≡ drop (at + 16) b = drop-drop 16 at b ∙ ap (λ i. drop i b) (omega arith) in
    let parts : slice_range b at e ≡ take 16 ds ++ tail = ap (λ i. take i ds) (omega (arith, end)) ∙ (take-add 16 (e - (at + 16)) ds ∙ ap (λ xs. take 16 ds ++ take (e - (at + 16)) xs) behind) in
    let all : digits_value 10 (slice_range b at e) ≡ digits_value 10 (take 16 ds) * 10 ^ length tail + digits_value 10 tail =
    ap (digits_value 10) parts ∙ (value_append (take 16 ds) tail 0 ∙ value_behind tail (digits_value 10 (take 16 ds))) in
    let same : v * 10 ^ (e - (at + 16)) ≡ digits_value 10 (take 16 ds) * 10 ^ length tail = λ i. is i * 10 ^ (sym count i) in
    k ∙ ap (λ x. x % 2 ^ 64) (omega (arith, same, all))
