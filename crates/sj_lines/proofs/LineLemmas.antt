-- Lines and their texts.
use Rattle.std.proofs.Common.{◌≡◌, ℕ, zero, suc, ◌+◌, ◌-◌, ◌<◌, ◌≤◌, Bool, true, false, List, [], ◌∷◌, ◌++◌, length, take, drop, get_or, refl, sym, ap, ◌∙◌, if◌then◌else◌, ◌==◌, arith}
use Rattle.std.specs.List.{concat}
use Rattle.std.proofs.lemmas.Bool.{eq-eqb, eqb-true, false_from_ne_true}
use Rattle.std.proofs.lemmas.List.{take_more, take_all, drop_all}
use Rattle.sj_lines.specs.Lines.{onto_line, full_lines, without_end}

concat-onto_line : (c : ℕ) (ls : List (List ℕ)) → concat (onto_line c ls) ≡ c ∷ concat ls
concat-onto_line c [] = refl
concat-onto_line c (l ∷ ls) = refl

concat-first : (c : ℕ) (b : List ℕ) (ls : List (List ℕ)) (x : Bool) → concat ls ≡ b → concat (if x then (c ∷ []) ∷ ls else onto_line c ls) ≡ c ∷ b
concat-first c b ls true e = ap (λ l. c ∷ l) e
concat-first c b ls false e = concat-onto_line c ls ∙ ap (λ l. c ∷ l) e

pub concat-full_lines : (b : List ℕ) → concat (full_lines b) ≡ b
concat-full_lines [] = refl
concat-full_lines (c ∷ b) = concat-first c b (full_lines b) (c == 10) (concat-full_lines b)

-- the first line ends with the first line feed
pub first_line : (k : ℕ) (b : List ℕ) → k < length b → ((j : ℕ) → j < k → (get_or b j 0 == 10) ≡ true → ⊥) → (get_or b k 0 == 10) ≡ true
    → full_lines b ≡ take (suc k) b ∷ full_lines (drop (suc k) b)
first_line k [] lt before here = absurd (omega (arith, lt))
first_line zero (c ∷ b) lt before here = λ i. if here i then (c ∷ []) ∷ full_lines b else onto_line c (full_lines b)
first_line (suc k) (c ∷ b) lt before here =
    (λ i. if false_from_ne_true (c == 10) (before 0 (omega arith)) i then (c ∷ []) ∷ full_lines b else onto_line c (full_lines b))
    ∙ ap (λ ls. onto_line c ls) (first_line k b (omega (arith, lt)) (λ j h. before (suc j) (omega (arith, h))) here)

only_line : (c : ℕ) (b : List ℕ) → ((j : ℕ) → j < length (c ∷ b) → (get_or (c ∷ b) j 0 == 10) ≡ true → ⊥) → full_lines (c ∷ b) ≡ (c ∷ b) ∷ []
only_line c [] none = λ i. if false_from_ne_true (c == 10) (none 0 (omega arith)) i then (c ∷ []) ∷ [] else onto_line c []
only_line c (d ∷ b) none =
    (λ i. if false_from_ne_true (c == 10) (none 0 (omega arith)) i then (c ∷ []) ∷ full_lines (d ∷ b) else onto_line c (full_lines (d ∷ b)))
    ∙ ap (λ ls. onto_line c ls) (only_line d b (λ j h. none (suc j) (omega (arith, h))))

-- without a line feed there is one line
pub one_full_line : (b : List ℕ) → 0 < length b → ((j : ℕ) → j < length b → (get_or b j 0 == 10) ≡ true → ⊥) → full_lines b ≡ take (length b) b ∷ full_lines (drop (length b) b)
one_full_line [] some none = absurd (omega (arith, some))
one_full_line (c ∷ b) some none =
    let n = length (c ∷ b) in
    only_line c b none ∙ sym (λ i. take_all n (c ∷ b) (omega arith) i ∷ full_lines (drop_all n (c ∷ b) (omega arith) i))

onto_single : (t : Bool) (y x : ℕ) → y ∷ (if t then [] else x ∷ []) ≡ (if t then y ∷ [] else y ∷ x ∷ [])
onto_single true y x = refl
onto_single false y x = refl

onto_more : (t : Bool) (y z x : ℕ) (b : List ℕ) → y ∷ (if t then z ∷ b else z ∷ (b ++ x ∷ [])) ≡ (if t then y ∷ z ∷ b else y ∷ z ∷ (b ++ x ∷ []))
onto_more true y z x b = refl
onto_more false y z x b = refl

without_last-append : (c x : ℕ) (b : List ℕ) → without_end c (b ++ x ∷ []) ≡ (if x == c then b else b ++ x ∷ [])
without_last-append c x [] = refl
without_last-append c x (y ∷ []) = onto_single (x == c) y x
without_last-append c x (y ∷ z ∷ b) = ap (λ l. y ∷ l) (without_last-append c x (z ∷ b)) ∙ onto_more (x == c) y z x b

-- by whether the last of the first n bytes is c
without_last-take : (c n : ℕ) (b : List ℕ) (t : Bool) → 0 < n → n ≤ length b → (get_or b (n - 1) 0 == c) ≡ t → without_end c (take n b) ≡ (if t then take (n - 1) b else take n b)
without_last-take c n b t some within e =
    let i = n - 1 in
    let split : take n b ≡ take i b ++ get_or b i 0 ∷ [] = (let k : n ≡ i + 1 = omega arith in ap (λ m. take m b) k) ∙ take_more b i 0 (omega arith) in
    ap (λ l. without_end c l) split ∙ without_last-append c (get_or b i 0) (take i b)
    ∙ (λ j. if e j then take i b else (take i b ++ get_or b i 0 ∷ [])) ∙ ap (λ l. if t then take i b else l) (sym split)

pub trims : (c n : ℕ) (b : List ℕ) → 0 < n → n ≤ length b → get_or b (n - 1) 0 ≡ c → take (n - 1) b ≡ without_end c (take n b)
trims c n b some within e = sym (without_last-take c n b true some within (eq-eqb (get_or b (n - 1) 0) c e))

pub stays : (c n : ℕ) (b : List ℕ) → 0 < n → n ≤ length b → (get_or b (n - 1) 0 ≡ c → ⊥) → take n b ≡ without_end c (take n b)
stays c n b some within e = sym (without_last-take c n b false some within (false_from_ne_true (get_or b (n - 1) 0 == c) (λ k. e (eqb-true (get_or b (n - 1) 0) c k))))

pub trims-nothing : (c n : ℕ) (b : List ℕ) → n ≤ 0 → take n b ≡ without_end c (take n b)
trims-nothing c n b h = let k : n ≡ 0 = omega (arith, h) in (λ i. take (k i) b) ∙ sym (λ i. without_end c (take (k i) b))
