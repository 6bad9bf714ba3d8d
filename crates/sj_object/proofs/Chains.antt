-- The chains of members by their hashes: what one more member, or one less, does to them.
use Rattle.std.specs.Bool.{if◌then◌else◌}
use Rattle.std.proofs.Common.{◌≡◌, ◌≢◌, ℕ, zero, suc, ◌+◌, ◌-◌, ◌<◌, ◌≤◌, ◌%◌, nat_le, Bool, true, false, List, ◌++◌, length, take, drop, get_or, set, refl, sym, ap, ◌∙◌, arith, add-one, get_or-set_same, get_or-set_other, below_more, subst, true≢false}
use Rattle.std.specs.List.{remove}
use Rattle.std.proofs.lemmas.Bool.Decides.{nat_tests}
use Rattle.std.proofs.lemmas.List.{take-append-drop, drop-take, get_or-drop, length-drop, length-take-le, length-set, length-replicate, get_or-replicate}
use Rattle.std.proofs.Math.ListN.{replicate}
use Rattle.std.proofs.Math.Seq.{take-append_seam, drop-append_seam}
use Rattle.std.proofs.lemmas.List.Edits.{get_or-remove_below, get_or-remove_above, remove-append_right}
use Rattle.sj_object.specs.Chains.{is_in_bucket, last_below}
use Rattle.sj_object.specs.inner.Chains.{IsLinked, passed, lowered}

module _ (n b : ℕ) where
  pub last_le : (hs : List ℕ) (k : ℕ) → last_below n b hs k ≤ k
  unfolding last_below
  last_le hs zero = omega arith
  last_le hs (suc k) = by_test (is_in_bucket n b (get_or hs k 0)) (last_le hs k) where
    by_test : (c : Bool) → last_below n b hs k ≤ k → (if c then suc k else last_below n b hs k) ≤ suc k
    by_test true h = omega arith
    by_test false h = omega arith

  pub last_in : (hs : List ℕ) (k : ℕ) → is_in_bucket n b (get_or hs k 0) ≡ true → last_below n b hs (suc k) ≡ suc k
  unfolding last_below
  last_in hs k e = λ i. if e i then suc k else last_below n b hs k

  pub last_out : (hs : List ℕ) (k : ℕ) → is_in_bucket n b (get_or hs k 0) ≡ false → last_below n b hs (suc k) ≡ last_below n b hs k
  unfolding last_below
  last_out hs k e = λ i. if e i then suc k else last_below n b hs k

  -- the place that ends a walk is the last below itself
  pub last_again : (hs : List ℕ) (k : ℕ) → last_below n b hs (last_below n b hs k) ≡ last_below n b hs k
  unfolding last_below
  last_again hs zero = refl
  last_again hs (suc k) = by_test (is_in_bucket n b (get_or hs k 0)) refl (last_again hs k) where
    by_test : (c : Bool) → is_in_bucket n b (get_or hs k 0) ≡ c → last_below n b hs (last_below n b hs k) ≡ last_below n b hs k
        → last_below n b hs (if c then suc k else last_below n b hs k) ≡ (if c then suc k else last_below n b hs k)
    by_test true e h = last_in hs k e
    by_test false e h = h

  -- a place in the chain has its member in the bucket
  pub place_in : (hs : List ℕ) (k : ℕ) → last_below n b hs (suc k) ≡ suc k → is_in_bucket n b (get_or hs k 0) ≡ true
  place_in hs k h = by_test (is_in_bucket n b (get_or hs k 0)) refl where
    by_test : (c : Bool) → is_in_bucket n b (get_or hs k 0) ≡ c → c ≡ true
    by_test true e = refl
    by_test false e = let o = last_out hs k e in let l = last_le hs k in absurd (omega arith)

  -- the last place is not below a member of the bucket
  last_ge : (hs : List ℕ) (j k : ℕ) → is_in_bucket n b (get_or hs j 0) ≡ true → j < k → j < last_below n b hs k
  unfolding last_below
  last_ge hs j zero e l = omega arith
  last_ge hs j (suc k) e l = by_test (is_in_bucket n b (get_or hs k 0)) (nat_le k j) refl refl (last_ge hs j k e) where
    by_test : (c d : Bool) → is_in_bucket n b (get_or hs k 0) ≡ c → nat_le k j ≡ d → (j < k → j < last_below n b hs k) → j < (if c then suc k else last_below n b hs k)
    by_test true d p q h = l
    by_test false true p q h = let same : j ≡ k = grind (arith, nat_tests) in absurd (true≢false (sym e ∙ ap (λ m. is_in_bucket n b (get_or hs m 0)) same ∙ p))
    by_test false false p q h = let below : j < k = grind (arith, nat_tests) in h below

  -- it is a matter of the first k hashes
  pub last_same : (hs gs : List ℕ) (k : ℕ) → ((j : ℕ) → j < k → get_or hs j 0 ≡ get_or gs j 0) → last_below n b hs k ≡ last_below n b gs k
  unfolding last_below
  last_same hs gs zero f = refl
  last_same hs gs (suc k) f = λ i. if is_in_bucket n b (f k (omega arith) i) then suc k else last_same hs gs k (λ j l. f j (omega arith)) i

-- one more member goes into its chain
pub link_starts : (n : ℕ) (hs heads : List ℕ) (i : ℕ) → length heads ≡ n → get_or hs i 0 % n < n
    → ((b : ℕ) → b < n → get_or heads b 0 ≡ last_below n b hs i)
    → (b : ℕ) → b < n → get_or (set heads (get_or hs i 0 % n) (i + 1)) b 0 ≡ last_below n b hs (i + 1)
link_starts n hs heads i s w f b l = by_test (is_in_bucket n b (get_or hs i 0)) refl where
  by_test : (c : Bool) → is_in_bucket n b (get_or hs i 0) ≡ c → get_or (set heads (get_or hs i 0 % n) (i + 1)) b 0 ≡ last_below n b hs (i + 1)
  by_test true e =
      let q : get_or hs i 0 % n ≡ b = grind (arith, nat_tests) in
      rw (add-one, last_in n b hs i e) (rw q (get_or-set_same heads b (suc i) 0 (omega arith)))
  by_test false e =
      let q : b ≢ get_or hs i 0 % n = grind (arith, nat_tests) in
      rw (add-one, last_out n b hs i e) (get_or-set_other heads (get_or hs i 0 % n) b (suc i) 0 q ∙ f b l)

pub link_nexts : (n : ℕ) (hs links : List ℕ) (i x : ℕ) → i < length links → x ≡ last_below n (get_or hs i 0 % n) hs i
    → ((j : ℕ) → j < i → get_or links j 0 ≡ last_below n (get_or hs j 0 % n) hs j)
    → (j : ℕ) → j < i + 1 → get_or (set links i x) j 0 ≡ last_below n (get_or hs j 0 % n) hs j
link_nexts n hs links i x w e f = below_more _ i
    (λ j l. let ne : j ≢ i = omega arith in get_or-set_other links i j x 0 ne ∙ f j l)
    (get_or-set_same links i x 0 w ∙ e)

pub IsLinked-more : (n : ℕ) (hs links heads : List ℕ) (i : ℕ) → 0 < n → i < length hs → IsLinked n hs links heads i
    → IsLinked n hs (set links i (get_or heads (get_or hs i 0 % n) 0)) (set heads (get_or hs i 0 % n) (i + 1)) (i + 1)
IsLinked-more n hs links heads i p l h =
    let b = get_or hs i 0 % n in
    let w : b < n = omega arith in
    let s : i < length links = omega (arith, h.size) in
    record {
      count = length-set heads b (i + 1) ∙ h.count;
      size = length-set links i (get_or heads b 0) ∙ h.size;
      starts = link_starts n hs heads i h.count w h.starts;
      nexts = link_nexts n hs links i (get_or heads b 0) s (h.starts b w) h.nexts;
    }

-- no member stands in a chain yet
pub IsLinked-none : (n : ℕ) (hs links heads : List ℕ) → length links ≡ length hs → heads ≡ replicate n 0 → IsLinked n hs links heads 0
unfolding last_below
IsLinked-none n hs links heads s e = record {
  count = ap length e ∙ length-replicate n 0;
  size = s;
  starts = λ b l. ap (λ xs. get_or xs b 0) e ∙ get_or-replicate n b 0 0 l;
  nexts = λ i l. absurd (omega arith);
}

-- a place once the member at position i is taken out, whose link is next
abbrev renumbered : ℕ → ℕ → ℕ → ℕ
renumbered i next p = lowered i (passed i next p)

pub passed_at : (i next p : ℕ) → p ≡ i + 1 → next ≡ passed i next p
passed_at i next p e = grind (arith, nat_tests)

pub passed_other : (i next p : ℕ) → (p ≡ i + 1 → ⊥) → p ≡ passed i next p
passed_other i next p e = grind (arith, nat_tests)

pub passed_low : (i next p : ℕ) → p ≤ i → passed i next p ≡ p
passed_low i next p h = grind (arith, nat_tests)

renumbered_low : (i next p : ℕ) → p ≤ i → renumbered i next p ≡ p
renumbered_low i next p h = grind (arith, nat_tests)

renumbered_at : (i next : ℕ) → next ≤ i → renumbered i next (suc i) ≡ next
renumbered_at i next h = grind (arith, nat_tests)

renumbered_high : (i next p : ℕ) → i < p → renumbered i next (suc p) ≡ p
renumbered_high i next p h = grind (arith, nat_tests)

module _ (n b : ℕ) (hs : List ℕ) (i next : ℕ) (within : i < length hs) (link : is_in_bucket n b (get_or hs i 0) ≡ true → next ≡ last_below n b hs i) where
  -- the places below are the same
  pub last_before : (k : ℕ) → k ≤ i → last_below n b (remove hs i) k ≡ last_below n b hs k
  last_before k l = last_same n b (remove hs i) hs k (λ j m. get_or-remove_below hs i 0 j (omega arith) within)

  abbrev Moved : ℕ → Type 0
  Moved k = renumbered i next (last_below n b hs (suc k)) ≡ last_below n b (remove hs i) k

  moved_at : Moved i
  moved_at = by_test (is_in_bucket n b (get_or hs i 0)) refl where
    by_test : (c : Bool) → is_in_bucket n b (get_or hs i 0) ≡ c → Moved i
    by_test true e = ap (renumbered i next) (last_in n b hs i e) ∙ renumbered_at i next (omega (arith, link e, last_le n b hs i)) ∙ link e ∙ sym (last_before i (omega arith))
    by_test false e = ap (renumbered i next) (last_out n b hs i e) ∙ renumbered_low i next (last_below n b hs i) (last_le n b hs i) ∙ sym (last_before i (omega arith))

  moved_more : (k : ℕ) → i ≤ k → Moved k → Moved (suc k)
  moved_more k l h = by_test (is_in_bucket n b (get_or hs (suc k) 0)) refl where
    same : get_or (remove hs i) k 0 ≡ get_or hs (suc k) 0
    same = get_or-remove_above hs i 0 k l within ∙ ap (λ m. get_or hs m 0) (add-one k)

    by_test : (c : Bool) → is_in_bucket n b (get_or hs (suc k) 0) ≡ c → Moved (suc k)
    by_test true e = ap (renumbered i next) (last_in n b hs (suc k) e) ∙ renumbered_high i next (suc k) (omega arith) ∙ sym (last_in n b (remove hs i) k (ap (is_in_bucket n b) same ∙ e))
    by_test false e = ap (renumbered i next) (last_out n b hs (suc k) e) ∙ h ∙ sym (last_out n b (remove hs i) k (ap (is_in_bucket n b) same ∙ e))

  -- the places from there on are renumbered
  pub last_after : (k : ℕ) → i ≤ k → Moved k
  last_after zero l = let e : i ≡ zero = omega arith in subst Moved e moved_at
  last_after (suc k) l = by_test (nat_le i k) refl (last_after k) where
    by_test : (c : Bool) → nat_le i k ≡ c → (i ≤ k → Moved k) → Moved (suc k)
    by_test true e more = let h : i ≤ k = grind (arith, nat_tests) in moved_more k h (more h)
    by_test false e more = let q : i ≡ suc k = grind (arith, nat_tests) in subst Moved q moved_at

-- a walk along the chain of the member at position i stands at a place above it
pub record IsAbove (n : ℕ) (hs : List ℕ) (i place : ℕ) : Type 0 where
  pub within : place ≤ length hs
  pub above : i + 1 < place
  pub ends : last_below n (get_or hs i 0 % n) hs place ≡ place

-- what goes to the member at position i
module _ (n : ℕ) (hs : List ℕ) (i : ℕ) (w : i < length hs) where
  in_own : is_in_bucket n (get_or hs i 0 % n) (get_or hs i 0) ≡ true
  in_own = grind (arith, nat_tests)

  -- only the chain of its own bucket goes to it
  pub own_bucket : (b k : ℕ) → last_below n b hs k ≡ i + 1 → get_or hs i 0 % n ≡ b
  own_bucket b k e =
      let s : last_below n b hs k ≡ suc i = e ∙ add-one i in
      let p : is_in_bucket n b (get_or hs i 0) ≡ true = place_in n b hs i (ap (last_below n b hs) (sym s) ∙ last_again n b hs k ∙ s) in
      grind (arith, nat_tests)

  -- and only one place of that
  pub once : (b k c j : ℕ) → last_below n b hs k ≡ i + 1 → last_below n c hs j ≡ i + 1 → get_or hs j 0 % n ≡ c → j < k → ⊥
  once b k c j e d p l =
      let x : get_or hs i 0 % n ≡ b = own_bucket b k e in
      let y : get_or hs i 0 % n ≡ c = own_bucket c j d in
      let q : get_or hs j 0 % n ≡ b = p ∙ sym y ∙ x in
      let r : is_in_bucket n b (get_or hs j 0) ≡ true = grind (arith, nat_tests) in
      omega (arith, last_ge n b hs j k r l, last_le n c hs j)

  above_from : (k p : ℕ) → i < k → k ≤ length hs → p ≡ last_below n (get_or hs i 0 % n) hs k → (p ≡ i + 1 → ⊥) → IsAbove n hs i p
  above_from k p l m e ne = record {
    within = omega (arith, last_le n (get_or hs i 0 % n) hs k);
    above = omega (arith, last_ge n (get_or hs i 0 % n) hs i k in_own l);
    ends = ap (last_below n (get_or hs i 0 % n) hs) e ∙ last_again n (get_or hs i 0 % n) hs k ∙ sym e;
  }

  pub above_start : (p : ℕ) → p ≡ last_below n (get_or hs i 0 % n) hs (length hs) → (p ≡ i + 1 → ⊥) → IsAbove n hs i p
  above_start p e ne = above_from (length hs) p w (omega arith) e ne

  -- a place above it has its member in its bucket
  above_in : (place k : ℕ) → place ≡ suc k → IsAbove n hs i place → get_or hs k 0 % n ≡ get_or hs i 0 % n
  above_in place k s h =
      let p : is_in_bucket n (get_or hs i 0 % n) (get_or hs k 0) ≡ true = place_in n (get_or hs i 0 % n) hs k (subst (λ m. last_below n (get_or hs i 0 % n) hs m ≡ m) s h.ends) in
      grind (arith, nat_tests)

  pub above_next : (place k p : ℕ) → place ≡ suc k → IsAbove n hs i place → p ≡ last_below n (get_or hs k 0 % n) hs k → (p ≡ i + 1 → ⊥) → IsAbove n hs i p
  above_next place k p s h e ne = above_from k p (omega (arith, h.above)) (omega (arith, h.within)) (e ∙ ap (λ b. last_below n b hs k) (above_in place k s h)) ne

-- the chains once the first members are left out, so many: a place of those ends a chain
module _ (n : ℕ) (hs : List ℕ) (g : ℕ) where
  pub last_dropped : (b k : ℕ) → last_below n b (drop g hs) k ≡ last_below n b hs (g + k) - g
  unfolding last_below
  last_dropped b zero = omega (arith, last_le n b hs (g + 0))
  last_dropped b (suc k) = by_test (is_in_bucket n b (get_or (drop g hs) k 0)) refl (last_dropped b k) where
    next : g + suc k ≡ suc (g + k)
    next = omega arith

    by_test : (c : Bool) → is_in_bucket n b (get_or (drop g hs) k 0) ≡ c → last_below n b (drop g hs) k ≡ last_below n b hs (g + k) - g → last_below n b (drop g hs) (suc k) ≡ last_below n b hs (g + suc k) - g
    by_test true e h =
        let same : suc k ≡ suc (g + k) - g = omega arith in
        last_in n b (drop g hs) k e ∙ same ∙ ap (λ m. m - g) (sym (ap (last_below n b hs) next ∙ last_in n b hs (g + k) (ap (is_in_bucket n b) (sym (get_or-drop g hs k 0)) ∙ e)))
    by_test false e h =
        last_out n b (drop g hs) k e ∙ h ∙ ap (λ m. m - g) (sym (ap (last_below n b hs) next ∙ last_out n b hs (g + k) (ap (is_in_bucket n b) (sym (get_or-drop g hs k 0)) ∙ e)))

-- what is left behind the first, once one of the others is taken out
pub drop-remove : {X : Type 0} (xs : List X) (g i : ℕ) → g ≤ length xs → drop g (remove xs (g + i)) ≡ remove (drop g xs) i
drop-remove {X} xs g i l =
    let n : length (take g xs) ≡ g = length-take-le g xs l in
    let whole = ap (λ ys. remove ys (g + i)) (sym (take-append-drop g xs)) ∙ remove-append_right (take g xs) (drop g xs) g (g + i) n (omega arith) in
    let past : g + i - g ≡ i = omega arith in
    ap (drop g) (whole ∙ ap (λ m. take g xs ++ remove (drop g xs) m) past) ∙ ap (λ m. drop m (take g xs ++ remove (drop g xs) i)) (sym n) ∙ drop-append_seam (take g xs) (remove (drop g xs) i)

-- and once the last is taken out
pub drop-pop : {X : Type 0} (xs : List X) (g : ℕ) → g < length xs → drop g (take (length xs - 1) xs) ≡ take (length (drop g xs) - 1) (drop g xs)
drop-pop xs g l =
    let m : length xs - 1 ≡ g + (length (drop g xs) - 1) = omega (arith, length-drop g xs) in
    ap (λ k. drop g (take k xs)) m ∙ drop-take g (length (drop g xs) - 1) xs

-- what a vector has after its slice was lent and written
pub refilled : (a : ℕ) (ws xs : List ℕ) → a ≡ length ws → take a (ws ++ drop (length ws) xs) ≡ ws
refilled a ws xs e = ap (λ n. take n (ws ++ drop (length ws) xs)) e ∙ take-append_seam ws (drop (length ws) xs)
