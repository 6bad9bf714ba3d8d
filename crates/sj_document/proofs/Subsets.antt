-- Lists of texts within one another.
use Rattle.std.proofs.Common.{◌≡◌, ℕ, suc, ◌≤◌, Bool, true, false, ◌||◌, List, [], ◌∷◌, length, refl, sym, ap, ◌∙◌, arith, true≢false, bytes_eq}
use Rattle.std.specs.Bool.{if◌then◌else◌}
use Rattle.std.proofs.lemmas.Slice.Eq.{bytes_eq-Decides}
use Rattle.std.proofs.lemmas.Bool.{or_right}
use Rattle.sj_text_core.specs.Keep.{is_seen}
use Rattle.sj_object.specs.Texts.{no_repeats}
use Rattle.sj_object.specs.inner.Texts.{not_and}

-- every text of the first stands in the second
abbrev pub Within : List (List ℕ) → List (List ℕ) → Type 0
Within ks ls = (x : List ℕ) → is_seen x ks ≡ true → is_seen x ls ≡ true

abbrev remove : List ℕ → List (List ℕ) → List (List ℕ)
remove k [] = []
remove k (l ∷ ls) = if bytes_eq k l then ls else l ∷ remove k ls

len_by : (b x : Bool) (l : List ℕ) (ls rs : List (List ℕ)) → (b || x) ≡ true → (x ≡ true → suc (length rs) ≡ length ls) → suc (length (if b then ls else l ∷ rs)) ≡ suc (length ls)
len_by true x l ls rs e f = refl
len_by false x l ls rs e f = ap (λ n. suc n) (f e)

len_remove : (k : List ℕ) (ls : List (List ℕ)) → is_seen k ls ≡ true → suc (length (remove k ls)) ≡ length ls
len_remove k [] e = cc
len_remove k (l ∷ ls) e = len_by (bytes_eq k l) (is_seen k ls) l ls (remove k ls) e (len_remove k ls)

seen_by : (b c : Bool) (x l : List ℕ) (ls rs : List (List ℕ)) → bytes_eq x l ≡ c → (b ≡ true → c ≡ false) → (c || is_seen x ls) ≡ true → (is_seen x ls ≡ true → is_seen x rs ≡ true) → is_seen x (if b then ls else l ∷ rs) ≡ true
seen_by true true x l ls rs d n e f = absurd (true≢false (n refl))
seen_by true false x l ls rs d n e f = e
seen_by false true x l ls rs d n e f = λ i. d i || is_seen x rs
seen_by false false x l ls rs d n e f = (λ i. d i || is_seen x rs) ∙ f e

differ : (x k l : List ℕ) → bytes_eq x k ≡ false → bytes_eq k l ≡ true → bytes_eq x l ≡ false
differ x k l e f = ap (bytes_eq x) (sym ((bytes_eq-Decides k l).0 f)) ∙ e

-- another text stays
seen_remove : (x k : List ℕ) (ls : List (List ℕ)) → bytes_eq x k ≡ false → is_seen x ls ≡ true → is_seen x (remove k ls) ≡ true
seen_remove x k [] e h = h
seen_remove x k (l ∷ ls) e h = seen_by (bytes_eq k l) (bytes_eq x l) x l ls (remove k ls) refl (λ f. differ x k l e f) h (seen_remove x k ls e)

other : (x k : List ℕ) (ks : List (List ℕ)) (b : Bool) → bytes_eq x k ≡ b → is_seen k ks ≡ false → is_seen x ks ≡ true → b ≡ false
other x k ks true d n h = absurd (true≢false (sym h ∙ ap (λ y. is_seen y ks) ((bytes_eq-Decides x k).0 d) ∙ n))
other x k ks false d n h = refl

module _ (k : List ℕ) (ks ls : List (List ℕ)) (d : no_repeats (k ∷ ks) ≡ true) (w : Within (k ∷ ks) ls) where
  first : is_seen k ls ≡ true
  first = w k (λ i. (bytes_eq-Decides k k).1 refl i || is_seen k ks)

  within_rest : Within ks (remove k ls)
  within_rest = λ x h. seen_remove x k ls (other x k ks (bytes_eq x k) refl (not_and (is_seen k ks) _ d).0 h) (w x (or_right (bytes_eq x k) (is_seen x ks) h))

-- without repeats they are no more
pub within_len : (ks ls : List (List ℕ)) → no_repeats ks ≡ true → Within ks ls → length ks ≤ length ls
within_len [] ls d w = omega arith
within_len (k ∷ ks) ls d w = omega (arith, len_remove k ls (first k ks ls d w), within_len ks (remove k ls) (not_and (is_seen k ks) _ d).1 (within_rest k ks ls d w))

back_by : (x k : List ℕ) (ks : List (List ℕ)) (b : Bool) → bytes_eq x k ≡ b → (b ≡ false → is_seen x ks ≡ true) → (b || is_seen x ks) ≡ true
back_by x k ks true d f = refl
back_by x k ks false d f = f refl

-- and where they are as many, the second is within them
pub within_back : (ks ls : List (List ℕ)) → no_repeats ks ≡ true → length ks ≡ length ls → Within ks ls → Within ls ks
within_back [] [] d e w = λ x h. h
within_back [] (l ∷ ls) d e w = absurd (omega (arith, e))
within_back (k ∷ ks) ls d e w = λ x h. back_by x k ks (bytes_eq x k) refl
    (λ f. within_back ks (remove k ls) (not_and (is_seen k ks) _ d).1 (omega (arith, e, len_remove k ls (first k ks ls d w))) (within_rest k ks ls d w) x (seen_remove x k ls f h))
