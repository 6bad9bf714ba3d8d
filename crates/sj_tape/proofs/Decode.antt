-- Characters written over their own spelling.
use Rattle.std.proofs.Common.{◌≡◌, set, ℕ, zero, suc, ◌+◌, ◌-◌, ◌<◌, ◌≤◌, List, [], ◌∷◌, ◌++◌, length, take, drop, get_or, refl, sym, ap, ◌∙◌, arith, append_assoc, length-append, length-drop}
use Rattle.std.specs.Prelude.{slice_range}
use Rattle.std.proofs.lemmas.List.{drop-append-le, take-append-drop, drop_at, take_at, drop-drop, length-take-le, get_or-drop}

-- b with f written at `to`
abbrev pub written : List ℕ → ℕ → List ℕ → List ℕ
written b to f = take to b ++ (f ++ drop (to + length f) b)

-- one byte written
pub set_is : (b : List ℕ) (to v : ℕ) → to < length b → set b to v ≡ take to b ++ (v ∷ drop (to + 1) b)
set_is [] to v h = absurd (omega (arith, h))
set_is (c ∷ b) zero v h = refl
set_is (c ∷ b) (suc to) v h = ap (λ l. c ∷ l) (set_is b to v (omega (arith, h))) ∙ ap (λ n. c ∷ (take to b ++ (v ∷ drop n (c ∷ b)))) shifted
  where
    shifted : suc (to + 1) ≡ suc to + 1
    shifted = omega arith

front_len : (b : List ℕ) (to : ℕ) → to ≤ length b → length (take to b) ≡ to
front_len b to h = length-take-le to b h

-- writing keeps the size
pub written_size : (b : List ℕ) (to : ℕ) (f : List ℕ) → to + length f ≤ length b → length (written b to f) ≡ length b
written_size b to f h = omega (arith, h, length-append (take to b) (f ++ drop (to + length f) b), length-append f (drop (to + length f) b), front_len b to (omega (arith, h)), length-drop (to + length f) b)

-- writing keeps what stands behind
pub written_rest : (b : List ℕ) (to : ℕ) (f : List ℕ) (n : ℕ) → to + length f ≤ length b → to + length f ≤ n → drop n (written b to f) ≡ drop n b
written_rest b to f n h k =
    let at : to + length f ≡ length (take to b ++ f) = omega (arith, length-append (take to b) f, front_len b to (omega (arith, h))) in
    let m : (n - (to + length f)) + (to + length f) ≡ n = omega (arith, k) in
    let m' : (to + length f) + (n - (to + length f)) ≡ n = omega (arith, k) in
    sym (drop-drop (n - (to + length f)) (to + length f) (written b to f) ∙ ap (λ j. drop j (written b to f)) (omega (arith, k)))
    ∙ (ap (λ l. drop (n - (to + length f)) l) (ap (λ l. drop (to + length f) l) (sym (append_assoc (take to b) f (drop (to + length f) b))) ∙ drop_at (take to b ++ f) (drop (to + length f) b) (to + length f) (sym at))
    ∙ (drop-drop (n - (to + length f)) (to + length f) b ∙ ap (λ j. drop j b) (omega (arith, k))))

-- what is written stands behind what was written
pub written_text : (b : List ℕ) (to : ℕ) (f : List ℕ) (s : ℕ) → to + length f ≤ length b → s ≤ to → slice_range (written b to f) s (to + length f) ≡ slice_range b s to ++ f
written_text b to f s h k =
    let a = take to b in
    let d = drop (to + length f) b in
    let le : s ≤ length a = omega (arith, front_len b to (omega (arith, h)), k) in
    let n : length (drop s a ++ f) ≡ to + length f - s = omega (arith, length-append (drop s a) f, length-drop s a, front_len b to (omega (arith, h)), k) in
    let m : length (drop s a) ≡ to - s = omega (arith, length-drop s a, front_len b to (omega (arith, h))) in
    ap (λ l. take (to + length f - s) l) (drop-append-le s a (f ++ d) le ∙ sym (append_assoc (drop s a) f d))
    ∙ (take_at (drop s a ++ f) d (to + length f - s) n
    ∙ ap (λ l. l ++ f) (sym (ap (λ l. take (to - s) (drop s l)) (sym (take-append-drop to b)) ∙ (ap (λ l. take (to - s) l) (drop-append-le s a (drop to b) le) ∙ take_at (drop s a) (drop to b) (to - s) m))))

-- the bytes ahead are as they were
pub same_byte : (b old : List ℕ) (from i : ℕ) → from ≤ i → drop from b ≡ drop from old → get_or b i 0 ≡ get_or old i 0
same_byte b old from i h e =
    let k : i ≡ from + (i - from) = omega arith in
    ap (λ n. get_or b n 0) k ∙ (sym (get_or-drop from b (i - from) 0) ∙ (ap (λ l. get_or l (i - from) 0) e ∙ (get_or-drop from old (i - from) 0 ∙ ap (λ n. get_or old n 0) (sym k))))

-- a rest that is the same is so from each later place on
pub same_rest : (b old : List ℕ) (from n : ℕ) → from ≤ n → drop from b ≡ drop from old → drop n b ≡ drop n old
same_rest b old from n h e =
    sym (drop-drop (n - from) from b ∙ ap (λ j. drop j b) (omega (arith, h))) ∙ (ap (λ l. drop (n - from) l) e ∙ (drop-drop (n - from) from old ∙ ap (λ j. drop j old) (omega (arith, h))))
