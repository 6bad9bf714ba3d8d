-- Holes in a table: what places and members are beside them.
use Rattle.std.proofs.Common.{◌≡◌, ℕ, zero, suc, ◌+◌, ◌-◌, ◌<◌, ◌≤◌, nat_le, Bool, true, false, List, [], ◌∷◌, ◌++◌, length, get_or, take, drop, append_assoc, refl, sym, ap, ◌∙◌, arith, add-one}
use Rattle.std.specs.Bool.{if◌then◌else◌}
use Rattle.std.specs.Prelude.{◌==◌}
use Rattle.std.specs.List.{remove, copy_within}
use Rattle.std.proofs.lemmas.Bool.Decides.{nat_tests}
use Rattle.std.proofs.lemmas.List.Edits.{get_or-remove_below, get_or-remove_above, length-remove, remove-append_left, remove-append_right, length-paste, take-paste, drop-paste}
use Rattle.std.proofs.lemmas.List.{drop-drop, length-drop, length-take-le, take-append-drop}
use Rattle.sj_object.specs.inner.Chains.{lowered, passed}
use Rattle.sj_object.specs.Holes.{raised, raised_by, without, AreHoles}
use Rattle.sj_object.specs.inner.Holes.{lowered_by, with_hole}

pub lowered_raised : (i p : ℕ) → lowered i (raised i p) ≡ p
lowered_raised i p = grind (arith, nat_tests)

pub raised_lowered : (i p : ℕ) → (p ≡ i + 1 → ⊥) → raised i (lowered i p) ≡ p
raised_lowered i p e = grind (arith, nat_tests)

raised_less : (i p r : ℕ) → p < r → raised i p < raised i r
raised_less i p r l = grind (arith, nat_tests)

raised_ge : (i p : ℕ) → p ≤ raised i p
raised_ge i p = grind (arith, nat_tests)

pub raised_le : (i p : ℕ) → raised i p ≤ suc p
raised_le i p = grind (arith, nat_tests)

pub raised_low : (i p : ℕ) → p ≤ i → raised i p ≡ p
raised_low i p l = grind (arith, nat_tests)

pub raised_high : (i p : ℕ) → i < p → raised i p ≡ suc p
raised_high i p l = grind (arith, nat_tests)

pub lowered_raised_by : (qs : List ℕ) (p : ℕ) → lowered_by qs (raised_by qs p) ≡ p
lowered_raised_by [] p = refl
lowered_raised_by (q ∷ qs) p = ap (lowered_by qs) (lowered_raised q (raised_by qs p)) ∙ lowered_raised_by qs p

pub raised_by_less : (qs : List ℕ) (p r : ℕ) → p < r → raised_by qs p < raised_by qs r
raised_by_less [] p r l = l
raised_by_less (q ∷ qs) p r l = raised_less q (raised_by qs p) (raised_by qs r) (raised_by_less qs p r l)

pub raised_by_ge : (qs : List ℕ) (p : ℕ) → p ≤ raised_by qs p
raised_by_ge [] p = omega arith
raised_by_ge (q ∷ qs) p = omega (arith, raised_by_ge qs p, raised_ge q (raised_by qs p))

pub raised_by_same : (qs : List ℕ) (p r : ℕ) → raised_by qs p ≡ raised_by qs r → p ≡ r
raised_by_same qs p r e = sym (lowered_raised_by qs p) ∙ ap (lowered_by qs) e ∙ lowered_raised_by qs r

-- one more hole
module _ (q : ℕ) where
  pub raised_by-last : (qs : List ℕ) (p : ℕ) → raised_by (qs ++ q ∷ []) p ≡ raised_by qs (raised q p)
  raised_by-last [] p = refl
  raised_by-last (r ∷ qs) p = ap (raised r) (raised_by-last qs p)

  pub without-last : {X : Type 0} (qs : List ℕ) (xs : List X) → without (qs ++ q ∷ []) xs ≡ remove (without qs xs) q
  without-last [] xs = refl
  without-last (r ∷ qs) xs = without-last qs (remove xs r)

pub AreHoles-none : (g : ℕ) (qs : List ℕ) (n : ℕ) → length qs ≡ 0 → AreHoles g qs n
AreHoles-none g [] n e = tt
AreHoles-none g (q ∷ qs) n e = absurd (omega (arith, e))

pub AreHoles-more : (g : ℕ) (qs : List ℕ) (n m : ℕ) → n ≤ m → AreHoles g qs n → AreHoles g qs m
AreHoles-more g [] n m l h = tt
AreHoles-more g (q ∷ qs) n m l h = (h.0, (omega (arith, l, h.1.0), h.1.1))

-- the others, once the first is taken out
pub AreHoles-rest : (g q : ℕ) (qs : List ℕ) (n : ℕ) → AreHoles g (q ∷ qs) n → AreHoles g qs (n - 1)
AreHoles-rest g q qs n h = AreHoles-more g qs q (n - 1) (omega (arith, h.1.0)) h.1.1

-- those behind some of them
pub AreHoles-drop : (g i : ℕ) (qs : List ℕ) (n : ℕ) → AreHoles g qs n → AreHoles g (drop i qs) n
AreHoles-drop g zero qs n h = h
AreHoles-drop g (suc i) [] n h = tt
AreHoles-drop g (suc i) (q ∷ qs) n h = AreHoles-more g (drop i qs) q n (omega (arith, h.1.0)) (AreHoles-drop g i qs q h.1.1)

pub AreHoles-any : (g : ℕ) (qs : List ℕ) (n : ℕ) → AreHoles g qs n → AreHoles 0 qs n
AreHoles-any g [] n h = tt
AreHoles-any g (q ∷ qs) n h = (omega arith, (h.1.0, AreHoles-any g qs q h.1.1))

pub length-without : {X : Type 0} (g : ℕ) (qs : List ℕ) (xs : List X) (n : ℕ) → n ≡ length xs → AreHoles g qs n → length (without qs xs) + length qs ≡ n
length-without g [] xs n e h = omega (arith, e)
length-without g (q ∷ qs) xs n e h =
    let r = length-remove xs q (omega (arith, h.1.0, e)) in
    let m = length-without g qs (remove xs q) (n - 1) (omega (arith, r, e)) (AreHoles-rest g q qs n h) in
    omega (arith, m, h.1.0)

pub without-append : {X : Type 0} (g : ℕ) (qs : List ℕ) (xs ys : List X) (n : ℕ) → n ≡ length xs → AreHoles g qs n → without qs (xs ++ ys) ≡ without qs xs ++ ys
without-append g [] xs ys n e h = refl
without-append g (q ∷ qs) xs ys n e h =
    let l : q < length xs = omega (arith, h.1.0, e) in
    ap (without qs) (remove-append_left xs ys q l) ∙ without-append g qs (remove xs q) ys (n - 1) (omega (arith, length-remove xs q l, e)) (AreHoles-rest g q qs n h)

-- a place of a member that is there has it
pub get_or-without : {X : Type 0} (g : ℕ) (qs : List ℕ) (xs : List X) (n : ℕ) (d : X) (i s : ℕ) → n ≡ length xs → AreHoles g qs n → suc s ≡ raised_by qs (suc i) → get_or (without qs xs) i d ≡ get_or xs s d
get_or-without g [] xs n d i s e h z = let y : s ≡ i = omega (arith, z) in ap (λ k. get_or xs k d) (sym y)
get_or-without {X} g (q ∷ qs) xs n d i s e h z = by_place (raised_by qs (suc i)) refl (λ j. get_or-without g qs (remove xs q) (n - 1) d i j less (AreHoles-rest g q qs n h)) where
  l : q < length xs
  l = omega (arith, h.1.0, e)

  less : n - 1 ≡ length (remove xs q)
  less = omega (arith, length-remove xs q l, e)

  by_test : (j : ℕ) (c : Bool) → nat_le (suc j) q ≡ c → suc j ≡ raised_by qs (suc i) → suc s ≡ (if c then suc j else suc (suc j)) → get_or (remove xs q) j d ≡ get_or xs s d
  by_test j true t y z = let w : j < q = grind (arith, nat_tests) in let k : s ≡ j = omega (arith, z) in get_or-remove_below xs q d j w l ∙ ap (λ m. get_or xs m d) (sym k)
  by_test j false t y z = let w : q ≤ j = grind (arith, nat_tests) in let k : s ≡ j + 1 = omega (arith, z) in get_or-remove_above xs q d j w l ∙ ap (λ m. get_or xs m d) (sym k)

  by_place : (r : ℕ) → raised_by qs (suc i) ≡ r → ((j : ℕ) → suc j ≡ raised_by qs (suc i) → get_or (without qs (remove xs q)) i d ≡ get_or (remove xs q) j d) → get_or (without qs (remove xs q)) i d ≡ get_or xs s d
  by_place zero y more = absurd (omega (arith, y, raised_by_ge qs (suc i)))
  by_place (suc j) y more =
      more j (sym y)
      ∙ by_test j (nat_le (suc j) q) refl (sym y) (z ∙ ap (raised q) y)

-- behind the last member there is no hole
pub raised_by-past : (g : ℕ) (qs : List ℕ) (n m : ℕ) → AreHoles g qs n → m + length qs ≡ n → raised_by qs (suc m) ≡ suc n
raised_by-past g [] n m h e = omega (arith, e)
raised_by-past g (q ∷ qs) n m h e =
    let y : raised_by qs (suc m) ≡ suc (n - 1) = raised_by-past g qs (n - 1) m (AreHoles-rest g q qs n h) (omega (arith, e)) in
    let l : q < suc (n - 1) = omega (arith, h.1.0) in
    let z : suc (suc (n - 1)) ≡ suc n = omega (arith, h.1.0) in
    ap (raised q) y ∙ raised_high q (suc (n - 1)) l ∙ z

pub raised_by-within : (g : ℕ) (qs : List ℕ) (n m p : ℕ) → AreHoles g qs n → m + length qs ≡ n → p ≤ m → raised_by qs p ≤ n
raised_by-within g qs n m p h e l = omega (arith, raised_by_less qs p (suc m) (omega (arith, l)), raised_by-past g qs n m h e)

-- nor is there one among the first
pub raised_by-first : (g : ℕ) (qs : List ℕ) (n p : ℕ) → AreHoles g qs n → p ≤ g → raised_by qs p ≡ p
raised_by-first g [] n p h l = refl
raised_by-first g (q ∷ qs) n p h l = ap (raised q) (raised_by-first g qs (n - 1) p (AreHoles-rest g q qs n h) l) ∙ raised_low q p (omega (arith, h.0, l))

-- what goes to the member at a place goes on to its link
pub passed_raised : (qs : List ℕ) (q s a p : ℕ) → suc s ≡ raised_by qs (suc q) → passed s (raised_by qs a) (raised_by qs p) ≡ raised_by qs (passed q a p)
passed_raised qs q s a p e = by_test (p == q + 1) (raised_by qs p == s + 1) refl refl where
  by_test : (c d : Bool) → (p == q + 1) ≡ c → (raised_by qs p == s + 1) ≡ d → (if d then raised_by qs a else raised_by qs p) ≡ raised_by qs (if c then a else p)
  by_test true true t u = refl
  by_test false false t u = refl
  by_test true false t u =
      let y : p ≡ suc q = grind (arith, nat_tests) in
      let z : raised_by qs p ≡ s + 1 = ap (raised_by qs) y ∙ sym e ∙ sym (add-one s) in
      absurd (grind (arith, nat_tests))
  by_test false true t u =
      let z : raised_by qs p ≡ s + 1 = grind (arith, nat_tests) in
      let y : p ≡ suc q = raised_by_same qs p (suc q) (z ∙ add-one s ∙ e) in
      absurd (grind (arith, nat_tests))

-- what a hole is among the others, and what it is once the first of them is passed
under : (q s r : ℕ) → suc s ≡ raised q r → s ≤ q → (r ≡ suc s) × (s < q)
under q s r e l = by_test (nat_le r q) refl where
  by_test : (c : Bool) → nat_le r q ≡ c → (r ≡ suc s) × (s < q)
  by_test true t = grind (arith, nat_tests)
  by_test false t = grind (arith, nat_tests)

over : (q s r : ℕ) → suc s ≡ raised q r → q < s → (r ≡ s) × (q < r)
over q s r e l = by_test (nat_le r q) refl where
  by_test : (c : Bool) → nat_le r q ≡ c → (r ≡ s) × (q < r)
  by_test true t = grind (arith, nat_tests)
  by_test false t = grind (arith, nat_tests)

-- two holes, in each order
raised-raised : (q s p : ℕ) → q ≤ s → raised (suc s) (raised q p) ≡ raised q (raised s p)
raised-raised q s p l = grind (arith, nat_tests)

remove-remove : {X : Type 0} (xs : List X) (q s : ℕ) → q ≤ s → remove (remove xs (suc s)) q ≡ remove (remove xs q) s
remove-remove [] zero zero l = refl
remove-remove [] zero (suc s) l = refl
remove-remove [] (suc q) zero l = refl
remove-remove [] (suc q) (suc s) l = refl
remove-remove (x ∷ xs) zero s l = refl
remove-remove (x ∷ xs) (suc q) zero l = absurd (omega (arith, l))
remove-remove (x ∷ xs) (suc q) (suc s) l = ap (λ ys. x ∷ ys) (remove-remove xs q s (omega (arith, l)))

-- one more that is behind all the others
with_hole-first : (g : ℕ) (qs : List ℕ) (n s : ℕ) → AreHoles g qs n → n ≤ s → with_hole s qs ≡ s ∷ qs
with_hole-first g [] n s h l = refl
with_hole-first g (q ∷ qs) n s h l = by_test (nat_le s q) refl where
  by_test : (c : Bool) → nat_le s q ≡ c → (if c then q ∷ with_hole s qs else s ∷ q ∷ qs) ≡ s ∷ q ∷ qs
  by_test true e = absurd (grind (arith, nat_tests, h.1.0, l))
  by_test false e = refl

pub length-with_hole : (s : ℕ) (qs : List ℕ) → length (with_hole s qs) ≡ suc (length qs)
length-with_hole s [] = refl
length-with_hole s (q ∷ qs) = by_test (nat_le s q) (length-with_hole s qs) where
  by_test : (c : Bool) → length (with_hole s qs) ≡ suc (length qs) → length (if c then q ∷ with_hole s qs else s ∷ q ∷ qs) ≡ suc (suc (length qs))
  by_test true h = ap suc h
  by_test false h = refl

-- the holes with one more, at the place of the member at a position beside the others
module _ (i : ℕ) where
  pub raised_by-with : (g : ℕ) (qs : List ℕ) (n s p : ℕ) → AreHoles g qs n → suc s ≡ raised_by qs (suc i) → raised_by (with_hole s qs) p ≡ raised_by qs (raised i p)
  raised_by-with g [] n s p h e = let y : s ≡ i = omega (arith, e) in ap (λ j. raised j p) y
  raised_by-with g (q ∷ qs) n s p h e = by_test (nat_le s q) refl (λ m. raised_by-with g qs q m p h.1.1) where
    r : ℕ
    r = raised_by qs (suc i)

    by_test : (c : Bool) → nat_le s q ≡ c → ((m : ℕ) → suc m ≡ raised_by qs (suc i) → raised_by (with_hole m qs) p ≡ raised_by qs (raised i p)) → raised_by (if c then q ∷ with_hole s qs else s ∷ q ∷ qs) p ≡ raised q (raised_by qs (raised i p))
    by_test true t more =
        let l : s ≤ q = grind (arith, nat_tests) in
        ap (raised q) (more s (sym (under q s r e l).0))
    by_test false t more =
        let l : q < s = grind (arith, nat_tests) in
        let v = over q s r e l in
        let m : ℕ = s - 1 in
        let o : s ≡ suc m = omega (arith, l) in
        let y : suc m ≡ r = omega (arith, v.0, o) in
        let w : q ≤ m = omega (arith, l) in
        ap (λ j. raised j (raised q (raised_by qs p))) o ∙ raised-raised q m (raised_by qs p) w
        ∙ ap (raised q) (sym (ap (λ rs. raised_by rs p) (with_hole-first g qs q m h.1.1 w)) ∙ more m y)

  pub without-with : {X : Type 0} (g : ℕ) (qs : List ℕ) (n s : ℕ) (xs : List X) → AreHoles g qs n → suc s ≡ raised_by qs (suc i) → without (with_hole s qs) xs ≡ remove (without qs xs) i
  without-with g [] n s xs h e = let y : s ≡ i = omega (arith, e) in ap (remove xs) y
  without-with {X} g (q ∷ qs) n s xs h e = by_test (nat_le s q) refl (λ m. without-with g qs q m (remove xs q) h.1.1) where
    r : ℕ
    r = raised_by qs (suc i)

    by_test : (c : Bool) → nat_le s q ≡ c → ((m : ℕ) → suc m ≡ raised_by qs (suc i) → without (with_hole m qs) (remove xs q) ≡ remove (without qs (remove xs q)) i) → without (if c then q ∷ with_hole s qs else s ∷ q ∷ qs) xs ≡ remove (without qs (remove xs q)) i
    by_test true t more =
        let l : s ≤ q = grind (arith, nat_tests) in
        more s (sym (under q s r e l).0)
    by_test false t more =
        let l : q < s = grind (arith, nat_tests) in
        let v = over q s r e l in
        let m : ℕ = s - 1 in
        let o : s ≡ suc m = omega (arith, l) in
        let y : suc m ≡ r = omega (arith, v.0, o) in
        let w : q ≤ m = omega (arith, l) in
        ap (λ j. without qs (remove (remove xs j) q)) o ∙ ap (without qs) (remove-remove xs q m w)
        ∙ sym (ap (λ rs. without rs (remove xs q)) (with_hole-first g qs q m h.1.1 w)) ∙ more m y

  pub AreHoles-with : (g : ℕ) (qs : List ℕ) (n s : ℕ) → AreHoles g qs n → suc s ≡ raised_by qs (suc i) → g ≤ s → s < n → AreHoles g (with_hole s qs) n
  AreHoles-with g [] n s h e l w = (l, (w, tt))
  AreHoles-with g (q ∷ qs) n s h e l w = by_test (nat_le s q) refl (λ y. AreHoles-with g qs q s h.1.1 y l) where
    r : ℕ
    r = raised_by qs (suc i)

    by_test : (c : Bool) → nat_le s q ≡ c → (suc s ≡ raised_by qs (suc i) → s < q → AreHoles g (with_hole s qs) q) → AreHoles g (if c then q ∷ with_hole s qs else s ∷ q ∷ qs) n
    by_test true t more =
        let z : s ≤ q = grind (arith, nat_tests) in
        let u = under q s r e z in
        (h.0, (h.1.0, more (sym u.0) u.1))
    by_test false t more =
        let z : q < s = grind (arith, nat_tests) in
        (l, (w, (h.0, (z, h.1.1))))

-- a place behind all holes
pub lowered_by-past : (g : ℕ) (qs : List ℕ) (n p : ℕ) → AreHoles g qs n → n ≤ p → lowered_by qs p + length qs ≡ p
lowered_by-past g [] n p h l = omega arith
lowered_by-past g (q ∷ qs) n p h l =
    let e : lowered q p ≡ p - 1 = lowered_high q p (omega (arith, h.1.0, l)) in
    let r = lowered_by-past g qs q (p - 1) h.1.1 (omega (arith, h.1.0, l)) in
    omega (arith, ap (lowered_by qs) e, r, h.1.0, l) where
      lowered_high : (i j : ℕ) → i < j → lowered i j ≡ j - 1
      lowered_high i j m = grind (arith, nat_tests)

pub lowered_low : (i p : ℕ) → p ≤ i → lowered i p ≡ p
lowered_low i p l = grind (arith, nat_tests)

-- one more hole behind the others
pub without-behind : {X : Type 0} (g : ℕ) (qs : List ℕ) (n q : ℕ) (xs : List X) → AreHoles g qs n → n ≤ q → without qs (remove xs q) ≡ remove (without qs xs) (q - length qs)
without-behind g [] n q xs h l = let e : q ≡ q - 0 = omega arith in ap (remove xs) e
without-behind g (d ∷ qs) n q xs h l =
    let r : ℕ = q - 1 in
    let e : q ≡ suc r = omega (arith, h.1.0, l) in
    let w : d ≤ r = omega (arith, h.1.0, l) in
    let y : r - length qs ≡ q - length (d ∷ qs) = omega (arith, e) in
    ap (λ j. without qs (remove (remove xs j) d)) e ∙ ap (without qs) (remove-remove xs d r w) ∙ without-behind g qs d r (remove xs d) h.1.1 w
    ∙ ap (remove (without qs (remove xs d))) y

-- the first hole, and those behind it
pub AreHoles-split : (g q : ℕ) (rs : List ℕ) (n : ℕ) → AreHoles g (rs ++ q ∷ []) n → AreHoles (suc q) rs n × ((g ≤ q) × (q < n))
AreHoles-split g q [] n h = (tt, (h.0, h.1.0))
AreHoles-split g q (r ∷ rs) n h = let s = AreHoles-split g q rs r h.1.1 in ((omega (arith, s.1.1), (h.1.0, s.0)), (s.1.0, omega (arith, s.1.1, h.1.0)))

-- the first of a list and what stands from a position on, once what stands from there to a hole is moved down
pub moved_down : (xs : List ℕ) (to from q : ℕ) → to ≤ from → from ≤ q → q < length xs → take (to + (q - from)) (copy_within xs from q to) ++ drop (suc q) (copy_within xs from q to) ≡ remove (take to xs ++ drop from xs) (to + (q - from))
moved_down xs to from q l m w =
    let k : ℕ = q - from in
    let n : length (drop from xs) ≡ length xs - from = length-drop from xs in
    let t : take (to + k) (copy_within xs from q to) ≡ take to xs ++ take k (drop from xs) = take-paste xs to (drop from xs) k (omega (arith, l, m, w)) (omega (arith, n, m, w)) in
    let d : drop (to + k) (copy_within xs from q to) ≡ drop (to + k) xs = drop-paste xs to (drop from xs) k (omega (arith, l, m, w)) (omega (arith, n, m, w)) in
    let o : to + k + (suc q - (to + k)) ≡ suc q = omega (arith, l, m) in
    let z : from + suc k ≡ suc q = omega (arith, m) in
    let e : drop (suc q) (copy_within xs from q to) ≡ drop (suc k) (drop from xs) =
    ap (λ j. drop j (copy_within xs from q to)) (sym o) ∙ sym (drop-drop (suc q - (to + k)) (to + k) (copy_within xs from q to)) ∙ ap (drop (suc q - (to + k))) d
    ∙ drop-drop (suc q - (to + k)) (to + k) xs ∙ ap (λ j. drop j xs) (o ∙ sym z) ∙ sym (drop-drop (suc k) from xs) in
    let y : to + k - to ≡ k = omega arith in
    (λ i. t i ++ e i) ∙ append_assoc (take to xs) (take k (drop from xs)) (drop (suc k) (drop from xs))
    ∙ sym (remove-append_right (take to xs) (drop from xs) to (to + k) (length-take-le to xs (omega (arith, l, m, w))) (omega arith) ∙ ap (λ j. take to xs ++ remove (drop from xs) j) y)

-- where that is where it stood
pub moved_nowhere : (xs : List ℕ) (from end to : ℕ) → to ≡ from → from ≤ end → end ≤ length xs → copy_within xs from end to ≡ xs
moved_nowhere xs from end to e m w =
    let k : ℕ = end - from in
    let l : from ≤ length xs = omega (arith, m, w) in
    let z : k ≤ length (drop from xs) = omega (arith, length-drop from xs, w) in
    let ys = copy_within xs from end from in
    ap (copy_within xs from end) e ∙ sym (take-append-drop (from + k) ys)
    ∙ (λ i. take-paste xs from (drop from xs) k l z i ++ drop-paste xs from (drop from xs) k l z i)
    ∙ append_assoc (take from xs) (take k (drop from xs)) (drop (from + k) xs)
    ∙ ap (λ rs. take from xs ++ (take k (drop from xs) ++ rs)) (sym (drop-drop k from xs))
    ∙ ap (λ rs. take from xs ++ rs) (take-append-drop k (drop from xs)) ∙ take-append-drop from xs

pub length-moved : (xs : List ℕ) (to from q : ℕ) → to ≤ from → from ≤ q → q ≤ length xs → length (copy_within xs from q to) ≡ length xs
length-moved xs to from q l m w = length-paste xs to (drop from xs) (q - from) (omega (arith, l, m, w)) (omega (arith, length-drop from xs, m, w))
