-- The plain part of a text, up to the byte that stops it.
use Rattle.std.proofs.Common.{◌≡◌, ◌≢◌, ℕ, ◌+◌, ◌-◌, ◌<◌, ◌≤◌, Bool, true, false, List, [], ◌∷◌, length, take, drop, get_or, refl, sym, ap, subst, ◌∙◌, arith, cond, length-drop}
use Rattle.std.specs.Prelude.{slice_range}
use Rattle.std.specs.List.{AllByRecursion, prefix_len}
use Rattle.std.proofs.lemmas.Bool.Decides.{nat_tests}
use Rattle.std.proofs.lemmas.List.{take-append-drop, drop-drop, get_or-drop}
use Rattle.std.proofs.lemmas.List.Sums.{prefix_len_stops}
use Rattle.sj_text_core.specs.inner.Parse.{with_front, read_text}
use Rattle.sj_print.specs.inner.Runs.{is_plain, IsAllPlain}
use Rattle.sj_text_core.proofs.parse.Escapes.{IsPlain, text_run}
use Rattle.sj_tape.proofs.Places.{SoFar}
use Rattle.sj_tape.proofs.Digits.{one_more}

plain_is : (c : ℕ) → is_plain c ≡ true → IsPlain c
plain_is c e = (low c e, quote c e, back c e)
  where
    low : (c : ℕ) → is_plain c ≡ true → 32 ≤ c
    low c e = grind (arith, nat_tests)

    quote : (c : ℕ) → is_plain c ≡ true → c ≢ 34
    quote c e = grind (arith, nat_tests)

    back : (c : ℕ) → is_plain c ≡ true → c ≢ 92
    back c e = grind (arith, nat_tests)

all_plain : (l : List ℕ) → AllByRecursion IsPlain (take (prefix_len is_plain l) l)
all_plain [] = tt
all_plain (c ∷ l) = by_byte c l (is_plain c) refl (all_plain l)
  where
    by_byte : (c : ℕ) (l : List ℕ) (t : Bool) → is_plain c ≡ t → AllByRecursion IsPlain (take (prefix_len is_plain l) l) → AllByRecursion IsPlain (take (cond t (1 + prefix_len is_plain l) 0) (c ∷ l))
    by_byte c l true e h = subst (λ x. AllByRecursion IsPlain x) (sym (one_more (prefix_len is_plain l) c l)) (plain_is c e, h)
    by_byte c l false e h = tt

all_copied : (l : List ℕ) → IsAllPlain (take (prefix_len is_plain l) l)
all_copied [] = refl
all_copied (c ∷ l) = by_byte c l (is_plain c) refl (all_copied l)
  where
    by_byte : (c : ℕ) (l : List ℕ) (t : Bool) → is_plain c ≡ t → IsAllPlain (take (prefix_len is_plain l) l) → IsAllPlain (take (cond t (1 + prefix_len is_plain l) 0) (c ∷ l))
    by_byte c l true e h =
        let front = take (prefix_len is_plain l) l in
        let longer : prefix_len is_plain (c ∷ front) ≡ 1 + length front = ap (λ t. cond t (1 + prefix_len is_plain front) 0) e ∙ ap (λ n. 1 + n) h in
        subst (λ x. IsAllPlain x) (sym (one_more (prefix_len is_plain l) c l)) (omega (arith, longer))
    by_byte c l false e h = refl

-- the run is printed as it stands
pub run_is_plain : (b : List ℕ) (at e : ℕ) → e ≡ at + prefix_len is_plain (drop at b) → IsAllPlain (slice_range b at e)
run_is_plain b at e h =
    let m : e - at ≡ prefix_len is_plain (drop at b) = omega (arith, h) in
    subst (λ k. IsAllPlain (take k (drop at b))) (sym m) (all_copied (drop at b))

-- the run is read as it stands
pub plain_so_far : (b : List ℕ) (at e : ℕ) → e ≡ at + prefix_len is_plain (drop at b) → SoFar (slice_range b at e) b at e
plain_so_far b at e h =
    let n = prefix_len is_plain (drop at b) in
    let m : e - at ≡ n = omega (arith, h) in
    let rest : drop n (drop at b) ≡ drop e b = drop-drop n at b ∙ ap (λ k. drop k b) (omega (arith, h)) in
    ap (λ l. read_text l) (sym (take-append-drop n (drop at b)))
    ∙ (text_run (take n (drop at b)) (drop n (drop at b)) (all_plain (drop at b))
    ∙ (ap (λ l. with_front (take n (drop at b)) (read_text l)) rest ∙ ap (λ k. with_front (take k (drop at b)) (read_text (drop e b))) (sym m)))

-- what is neither plain nor a quote nor a backslash is a control byte
pub control_is : (c : ℕ) → is_plain c ≡ false → c ≢ 34 → c ≢ 92 → c < 32
control_is c e q s = grind (arith, nat_tests)

-- what stops a run is not plain
pub stop_is : (b : List ℕ) (at e : ℕ) → e ≡ at + prefix_len is_plain (drop at b) → e < length b → is_plain (get_or b e 0) ≡ false
stop_is b at e h lt =
    let n = prefix_len is_plain (drop at b) in
    let same : get_or (drop at b) n 0 ≡ get_or b e 0 = get_or-drop at b n 0 ∙ ap (λ k. get_or b k 0) (sym h) in
    subst (λ x. is_plain x ≡ false) same (prefix_len_stops is_plain (drop at b) 0 (omega (arith, h, lt, length-drop at b)))
