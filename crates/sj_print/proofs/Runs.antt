-- A run of bytes that pass q, seen a vector at a time through the mask of those that fail it.
use Rattle.std.proofs.Common.{◌≡◌, ℕ, ◌+◌, ◌-◌, ◌*◌, ◌<◌, ◌≤◌, Bool, true, false, not, cond, eqb, List, [], ◌∷◌, map, length, drop, refl, sym, ap, ap₂, ◌∙◌, arith, drop-drop}
use Rattle.std.proofs.lemmas.Simd.{chunk-drop, length-chunk, leading_from_mask_l, trailing_mask_l}
use Rattle.std.proofs.lemmas.List.{length-drop, get_or-drop}
use Rattle.std.proofs.lemmas.List.Folds.{prefix_len-append}
use Rattle.std.proofs.lemmas.List.Sums.{prefix_len-le-length, prefix_len_is, prefix_len_passes}
use Rattle.std.proofs.lemmas.Bool.{eq-eqb, ne_eqb}
use Rattle.std.specs.List.{prefix_len}
use lib.Lanes.{chunk, mask_l}
use lib.Count.{count_trailing_zeros}

-- a run ends within the list
pub run_bound : (q : ℕ → Bool) (d : List ℕ) (i : ℕ) → i ≤ length d → i + prefix_len q (drop i d) ≤ length d
run_bound q d i h = omega (arith, prefix_len-le-length q (drop i d), length-drop i d)

-- what lies behind in a list that passes as a whole
behind : (q : ℕ → Bool) (xs : List ℕ) (j : ℕ) → prefix_len q xs ≡ length xs → prefix_len q (drop j xs) ≡ length (drop j xs)
behind q xs j all =
    prefix_len_is q (drop j xs) (length (drop j xs)) 0 (omega arith)
    (λ k h. ap q (get_or-drop j xs k 0) ∙ prefix_len_passes q xs (j + k) 0 (omega (arith, length-drop j xs, all, h)))
    (λ h. absurd (omega (arith, h)))

-- a run through the front, and one to the end that begins within it
pub run_whole : (q : ℕ → Bool) (d : List ℕ) (m k : ℕ) → k ≤ m → m ≤ length d → prefix_len q d ≡ m + prefix_len q (drop m d) → prefix_len q (drop k d) ≡ length d - k → prefix_len q d ≡ length d
run_whole q d m k le room front rest =
    let tail = behind q (drop k d) (m - k) (rest ∙ sym (length-drop k d)) in
    let at : drop (m - k) (drop k d) ≡ drop m d = drop-drop (m - k) k d ∙ ap (λ i. drop i d) (omega arith) in
    omega (arith, front, ap (prefix_len q) at, ap length at, tail, length-drop m d)

none_fails : (b : Bool) (n l m : ℕ) → n ≤ l → cond (not b) (1 + n) 0 ≡ 1 + l → (n ≡ l → m ≡ 0) → cond b 1 0 + 2 * m ≡ 0
none_fails true n l m le e ih = let no : ⊥ = omega arith in absurd no
none_fails false n l m le e ih = let z = ih (omega arith) in omega arith

module _ (p q : ℕ → Bool) (opposite : (x : ℕ) → q x ≡ not (p x)) where
  same_run : (xs : List ℕ) → prefix_len q xs ≡ prefix_len (λ x. not (p x)) xs
  same_run [] = refl
  same_run (x ∷ xs) = ap₂ (λ b n. cond b (1 + n) 0) (opposite x) (same_run xs)

  all_pass : (xs : List ℕ) → prefix_len (λ x. not (p x)) xs ≡ length xs → mask_l (map p xs) ≡ 0
  all_pass [] e = refl
  all_pass (x ∷ xs) e = none_fails (p x) _ (length xs) _ (prefix_len-le-length (λ y. not (p y)) xs) (omega arith) (all_pass xs)

  split : (d : List ℕ) (i n : ℕ) → prefix_len q (drop i d) ≡ cond (eqb (prefix_len q (chunk i n d)) (length (chunk i n d))) (length (chunk i n d) + prefix_len q (drop (i + n) d)) (prefix_len q (chunk i n d))
  split d i n = ap (prefix_len q) (chunk-drop i n d) ∙ prefix_len-append q (chunk i n d) (drop (i + n) d)

  -- no lane fails: the run goes through the vector
  pub run_through : (d : List ℕ) (i n : ℕ) → i + n ≤ length d → mask_l (map p (chunk i n d)) ≡ 0 → prefix_len q (drop i d) ≡ n + prefix_len q (drop (i + n) d)
  run_through d i n room none =
      let c = chunk i n d in
      split d i n ∙ ap (λ b. cond b (length c + prefix_len q (drop (i + n) d)) (prefix_len q c)) (eq-eqb _ _ (same_run c ∙ leading_from_mask_l p c none))
      ∙ ap (λ k. k + prefix_len q (drop (i + n) d)) (length-chunk i n d room)

  -- the vector at the end
  pub run_to_end : (d : List ℕ) (n : ℕ) → n ≤ length d → mask_l (map p (chunk (length d - n) n d)) ≡ 0 → prefix_len q (drop (length d - n) d) ≡ length d - (length d - n)
  run_to_end d n room end =
      omega (arith, run_through d (length d - n) n (omega arith) end, run_bound q d (length d - n) (omega arith))

  -- the run ends at the first lane that fails
  pub run_stops : (d : List ℕ) (i n : ℕ) → i + n ≤ length d → n ≤ 64 → 0 < mask_l (map p (chunk i n d)) → prefix_len q (drop i d) ≡ count_trailing_zeros 64 (mask_l (map p (chunk i n d)))
  run_stops d i n room short some =
      let c = chunk i n d in
      split d i n ∙ ap (λ b. cond b (length c + prefix_len q (drop (i + n) d)) (prefix_len q c)) (ne_eqb _ _ (λ (e : prefix_len q c ≡ length c). omega (arith, all_pass c (sym (same_run c) ∙ e))))
      ∙ same_run c ∙ sym (trailing_mask_l p 64 c (omega (arith, length-chunk i n d room)) some)

  -- the vectors at the front and at the end of a list, which they cover together
  pub two_vectors : (d : List ℕ) (n : ℕ) → n ≤ length d → length d ≤ n + n → mask_l (map p (chunk 0 n d)) ≡ 0 → mask_l (map p (chunk (length d - n) n d)) ≡ 0 → prefix_len q d ≡ length d
  two_vectors d n room covers front end =
      run_whole q d n (length d - n) (omega arith) room (run_through d 0 n (omega arith) front ∙ ap (λ i. n + prefix_len q (drop i d)) (omega arith)) (run_to_end d n room end)
