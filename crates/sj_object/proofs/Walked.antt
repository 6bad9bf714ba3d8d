-- A walk along the chain of a text's bucket.
use Rattle.std.proofs.Common.{◌≡◌, ℕ, zero, suc, ◌+◌, ◌<◌, ◌≤◌, ◌%◌, nat_eq, Bool, true, false, List, [], length, get_or, drop, bytes_eq, refl, sym, ap, ◌∙◌, arith, true≢false, count_by, subst, add-one}
use Rattle.std.specs.Bool.{if◌then◌else◌}
use Rattle.std.proofs.Math.Seq.{drop-cons}
use Rattle.std.proofs.lemmas.Bool.Decides.{nat_tests}
use Rattle.std.proofs.lemmas.List.{drop_all}
use Rattle.std.proofs.lemmas.List.Sums.{sum_by-drop_more}
use Rattle.std.proofs.lemmas.Bool.{or_from}
use Rattle.sj_text_core.specs.Keep.{is_seen}
use Rattle.sj_object.specs.Chains.{is_in_bucket, last_below}
use Rattle.sj_object.proofs.Chains.{last_le, last_again, place_in}

-- where a member has the text k, its hash is x
pub record Agrees (x : ℕ) (k : List ℕ) (hs : List ℕ) (ts : List (List ℕ)) : Type 0 where
  pub size : length hs ≡ length ts
  pub same : (i : ℕ) → i < length ts → bytes_eq k (get_or ts i []) ≡ true → get_or hs i 0 ≡ x

-- a walk stands at a place of bucket b, and no member behind has the text k
pub record IsAt (n b : ℕ) (k : List ℕ) (hs : List ℕ) (ts : List (List ℕ)) (place : ℕ) : Type 0 where
  pub within : place ≤ length ts
  pub ends : last_below n b hs place ≡ place
  pub unseen : is_seen k (drop place ts) ≡ false

-- how many members of the bucket stand from position m on
abbrev pub count : ℕ → ℕ → List ℕ → ℕ → ℕ
count n b hs m = count_by (is_in_bucket n b) (drop m hs)

count_at : (c : Bool) (n b : ℕ) (hs : List ℕ) (i : ℕ) → i < length hs → is_in_bucket n b (get_or hs i 0) ≡ c → count n b hs i ≡ (if c then 1 else 0) + count n b hs (suc i)
count_at c n b hs i l e = sum_by-drop_more (λ h. if is_in_bucket n b h then 1 else 0) hs i 0 l ∙ (λ j. (if e j then 1 else 0) + count n b hs (add-one i j))

count_out : (n b : ℕ) (hs : List ℕ) (i : ℕ) → i < length hs → is_in_bucket n b (get_or hs i 0) ≡ false → count n b hs i ≡ count n b hs (suc i)
count_out n b hs i l e = let h : count n b hs i ≡ 0 + count n b hs (suc i) = count_at false n b hs i l e in omega arith

unseen_at : (k : List ℕ) (ts : List (List ℕ)) (i : ℕ) → i < length ts → bytes_eq k (get_or ts i []) ≡ false → is_seen k (drop (suc i) ts) ≡ false → is_seen k (drop i ts) ≡ false
unseen_at k ts i l e u = ap (is_seen k) (drop-cons ts i [] l) ∙ or_from (bytes_eq k (get_or ts i [])) (is_seen k (drop (suc i) ts)) e u

module _ (n x : ℕ) (k : List ℕ) (hs : List ℕ) (ts : List (List ℕ)) (a : Agrees x k hs ts) where
  abbrev b : ℕ
  b = x % n

  -- a member out of the bucket has another text
  other : (i : ℕ) → i < length ts → is_in_bucket n (x % n) (get_or hs i 0) ≡ false → bytes_eq k (get_or ts i []) ≡ false
  other i l e = by_test (bytes_eq k (get_or ts i [])) refl where
    by_test : (c : Bool) → bytes_eq k (get_or ts i []) ≡ c → c ≡ false
    by_test false q = refl
    by_test true q = let h = a.same i l q in absurd (true≢false (sym (is_self (x % n)) ∙ ap (λ y. is_in_bucket n (x % n) y) (sym h) ∙ e)) where
      is_self : (m : ℕ) → nat_eq m m ≡ true
      is_self m = grind (arith, nat_tests)

  unseen_down : (m : ℕ) → m ≤ length ts → is_seen k (drop m ts) ≡ false → is_seen k (drop (last_below n (x % n) hs m) ts) ≡ false
  unfolding last_below
  unseen_down zero l u = u
  unseen_down (suc m) l u = by_test (is_in_bucket n (x % n) (get_or hs m 0)) refl (unseen_down m) where
    by_test : (c : Bool) → is_in_bucket n (x % n) (get_or hs m 0) ≡ c → (m ≤ length ts → is_seen k (drop m ts) ≡ false → is_seen k (drop (last_below n (x % n) hs m) ts) ≡ false)
        → is_seen k (drop (if c then suc m else last_below n (x % n) hs m) ts) ≡ false
    by_test true e more = u
    by_test false e more = more (omega arith) (unseen_at k ts m (omega arith) (other m (omega arith) e) u)

  count_down : (m : ℕ) → m ≤ length hs → count n (x % n) hs (last_below n (x % n) hs m) ≡ count n (x % n) hs m
  unfolding last_below
  count_down zero l = refl
  count_down (suc m) l = by_test (is_in_bucket n (x % n) (get_or hs m 0)) refl (count_down m (omega arith)) where
    by_test : (c : Bool) → is_in_bucket n (x % n) (get_or hs m 0) ≡ c → count n (x % n) hs (last_below n (x % n) hs m) ≡ count n (x % n) hs m
        → count n (x % n) hs (if c then suc m else last_below n (x % n) hs m) ≡ count n (x % n) hs (suc m)
    by_test true e h = refl
    by_test false e h = h ∙ count_out n (x % n) hs m (omega arith) e

  pub at_start : (p : ℕ) → p ≡ last_below n (x % n) hs (length hs) → IsAt n (x % n) k hs ts p × (count n (x % n) hs p ≡ 0)
  at_start p e = coe 1 0 (j. IsAt n (x % n) k hs ts (e j) × (count n (x % n) hs (e j) ≡ 0)) (
    record {
      within = omega (arith, last_le n (x % n) hs (length hs), a.size);
      ends = last_again n (x % n) hs (length hs);
      unseen = unseen_down (length hs) (omega (arith, a.size)) (ap (is_seen k) (drop_all (length hs) ts (omega (arith, a.size))));
    },
    count_down (length hs) (omega arith) ∙ ap (count_by (is_in_bucket n (x % n))) (drop_all (length hs) hs (omega arith)),
  )

  member_in : (place i : ℕ) → place ≡ suc i → IsAt n (x % n) k hs ts place → is_in_bucket n (x % n) (get_or hs i 0) ≡ true
  member_in place i s h = place_in n (x % n) hs i (subst (λ m. last_below n (x % n) hs m ≡ m) s h.ends)

  -- the member at the place is counted
  pub at_member : (place i : ℕ) → place ≡ suc i → IsAt n (x % n) k hs ts place → count n (x % n) hs i ≡ count n (x % n) hs place + 1
  at_member place i s h =
      let w : i < length hs = omega (arith, h.within, a.size, s) in
      let c : count n (x % n) hs i ≡ 1 + count n (x % n) hs (suc i) = count_at true n (x % n) hs i w (member_in place i s h) in
      let d : count n (x % n) hs place ≡ count n (x % n) hs (suc i) = ap (count n (x % n) hs) s in
      omega (arith, c, d)

  pub at_next : (place i p : ℕ) → place ≡ suc i → IsAt n (x % n) k hs ts place → bytes_eq k (get_or ts i []) ≡ false → p ≡ last_below n (get_or hs i 0 % n) hs i
      → IsAt n (x % n) k hs ts p × (count n (x % n) hs p ≡ count n (x % n) hs place + 1)
  at_next place i p s h e q =
      let w : i < length ts = omega (arith, h.within, s) in
      let m : get_or hs i 0 % n ≡ x % n = same (get_or hs i 0 % n) (x % n) (member_in place i s h) in
      let r : p ≡ last_below n (x % n) hs i = q ∙ ap (λ y. last_below n y hs i) m in
      let u : is_seen k (drop i ts) ≡ false = unseen_at k ts i w e (subst (λ j. is_seen k (drop j ts) ≡ false) s h.unseen) in
      coe 1 0 (j. IsAt n (x % n) k hs ts (r j) × (count n (x % n) hs (r j) ≡ count n (x % n) hs place + 1)) (
        record {
          within = omega (arith, last_le n (x % n) hs i);
          ends = last_again n (x % n) hs i;
          unseen = unseen_down i (omega arith) u;
        },
        count_down i (omega (arith, a.size)) ∙ at_member place i s h,
      ) where
        same : (y z : ℕ) → nat_eq y z ≡ true → y ≡ z
        same y z t = grind (arith, nat_tests)
