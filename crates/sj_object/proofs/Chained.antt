-- The chains of a table beside its holes: what one more member, or one less, does to them.
use Rattle.std.proofs.Common.{◌≡◌, ◌≢◌, ℕ, suc, ◌+◌, ◌<◌, ◌≤◌, ◌%◌, nat_le, Bool, true, false, List, [], ◌∷◌, ◌++◌, length, get_or, set, take, append-nil, refl, sym, ap, ◌∙◌, arith, add-one, get_or-set_same, get_or-set_other}
use Rattle.std.specs.Bool.{if◌then◌else◌}
use Rattle.std.specs.Prelude.{◌==◌}
use Rattle.std.specs.List.{remove}
use Rattle.std.proofs.lemmas.Bool.Decides.{nat_tests}
use Rattle.std.proofs.lemmas.List.{length-set, length_push, get_or_append_left, get_or_push, length-take-le, get_or-take, take_all, drop_all}
use Rattle.std.proofs.Math.Seq.{take-suc}
use Rattle.std.proofs.lemmas.List.Edits.{get_or-remove_below, get_or-remove_above, length-remove}
use Rattle.sj_object.specs.Chains.{is_in_bucket, last_below}
use Rattle.sj_object.specs.inner.Chains.{passed, lowered}
use Rattle.sj_object.specs.Holes.{raised, raised_by, without, AreHoles, IsChained}
use Rattle.sj_object.proofs.Chains.{last_le, last_in, last_out, last_same, last_before, last_after, passed_at, passed_other, passed_low, own_bucket, once}
use Rattle.sj_object.proofs.Holes

-- one more member
module _ (n b h : ℕ) (cs : List ℕ) where
  last_push_in : is_in_bucket n b h ≡ true → last_below n b (cs ++ h ∷ []) (length (cs ++ h ∷ [])) ≡ suc (length cs)
  last_push_in e =
      ap (last_below n b (cs ++ h ∷ [])) (length_push cs h ∙ add-one (length cs))
      ∙ last_in n b (cs ++ h ∷ []) (length cs) (ap (is_in_bucket n b) (get_or_push cs h 0 (length cs) refl) ∙ e)

  last_push_same : (k : ℕ) → k ≤ length cs → last_below n b (cs ++ h ∷ []) k ≡ last_below n b cs k
  last_push_same k l = last_same n b (cs ++ h ∷ []) cs k (λ j m. get_or_append_left cs (h ∷ []) 0 j (omega (arith, l, m)))

  last_push_out : is_in_bucket n b h ≡ false → last_below n b (cs ++ h ∷ []) (length (cs ++ h ∷ [])) ≡ last_below n b cs (length cs)
  last_push_out e =
      ap (last_below n b (cs ++ h ∷ [])) (length_push cs h ∙ add-one (length cs))
      ∙ last_out n b (cs ++ h ∷ []) (length cs) (ap (is_in_bucket n b) (get_or_push cs h 0 (length cs) refl) ∙ e)
      ∙ last_push_same (length cs) (omega arith)

module _ (n g : ℕ) (qs hs links heads : List ℕ) (h : ℕ) (p : 0 < n) (a : AreHoles g qs (length hs)) (k : IsChained n qs hs links heads) where
  abbrev cs : List ℕ
  cs = without qs hs

  abbrev x : ℕ
  x = get_or heads (h % n) 0

  more : without qs (hs ++ h ∷ []) ≡ cs ++ h ∷ []
  more = Holes.without-append g qs hs (h ∷ []) (length hs) refl a

  whole : length cs + length qs ≡ length hs
  whole = Holes.length-without g qs hs (length hs) refl a

  own : h % n < n
  own = omega (arith, p)

  push_starts : (b : ℕ) → b < n → get_or (set heads (h % n) (length hs + 1)) b 0 ≡ raised_by qs (last_below n b (cs ++ h ∷ []) (length (cs ++ h ∷ [])))
  push_starts b l = by_test (is_in_bucket n b h) refl where
    by_test : (c : Bool) → is_in_bucket n b h ≡ c → get_or (set heads (h % n) (length hs + 1)) b 0 ≡ raised_by qs (last_below n b (cs ++ h ∷ []) (length (cs ++ h ∷ [])))
    by_test true e =
        let q : h % n ≡ b = grind (arith, nat_tests) in
        let w : b < length heads = omega (arith, l, k.count) in
        ap (λ y. get_or (set heads y (length hs + 1)) b 0) q ∙ get_or-set_same heads b (length hs + 1) 0 w ∙ add-one (length hs)
        ∙ sym (Holes.raised_by-past g qs (length hs) (length cs) a whole) ∙ ap (raised_by qs) (sym (last_push_in n b h cs e))
    by_test false e =
        let q : b ≢ h % n = grind (arith, nat_tests) in
        get_or-set_other heads (h % n) b (length hs + 1) 0 q ∙ k.starts b l ∙ ap (raised_by qs) (sym (last_push_out n b h cs e))

  push_nexts : (i s : ℕ) → i < length (cs ++ h ∷ []) → suc s ≡ raised_by qs (suc i) → get_or (links ++ x ∷ []) s 0 ≡ raised_by qs (last_below n (get_or (cs ++ h ∷ []) i 0 % n) (cs ++ h ∷ []) i)
  push_nexts i s l e = by_test (nat_le (length cs) i) refl where
    by_test : (c : Bool) → nat_le (length cs) i ≡ c → get_or (links ++ x ∷ []) s 0 ≡ raised_by qs (last_below n (get_or (cs ++ h ∷ []) i 0 % n) (cs ++ h ∷ []) i)
    by_test true t =
        let q : i ≡ length cs = grind (arith, nat_tests, length_push cs h, l) in
        let z : length links ≡ s = omega (arith, k.size, e, ap (λ m. raised_by qs (suc m)) q, Holes.raised_by-past g qs (length hs) (length cs) a whole) in
        get_or_push links x 0 s z ∙ k.starts (h % n) own ∙ ap (λ m. raised_by qs (last_below n (h % n) cs m)) (sym q)
        ∙ ap (raised_by qs) (sym (last_push_same n (h % n) h cs i (omega (arith, q))))
        ∙ ap (λ y. raised_by qs (last_below n (y % n) (cs ++ h ∷ []) i)) (sym (get_or_push cs h 0 i (sym q)))
    by_test false t =
        let w : i < length cs = grind (arith, nat_tests) in
        let z : s < length links = omega (arith, k.size, e, Holes.raised_by-within g qs (length hs) (length cs) (suc i) a whole (omega (arith, w))) in
        get_or_append_left links (x ∷ []) 0 s z ∙ k.nexts i s w e
        ∙ ap (λ y. raised_by qs (last_below n (y % n) cs i)) (sym (get_or_append_left cs (h ∷ []) 0 i w))
        ∙ ap (raised_by qs) (sym (last_push_same n (get_or (cs ++ h ∷ []) i 0 % n) h cs i (omega (arith, w))))

  pub IsChained-push : IsChained n qs (hs ++ h ∷ []) (links ++ x ∷ []) (set heads (h % n) (length hs + 1))
  IsChained-push = record {
    count = length-set heads (h % n) (length hs + 1) ∙ k.count;
    size = length_push links x ∙ ap (λ m. m + 1) k.size ∙ sym (length_push hs h);
    starts = λ b l. push_starts b l ∙ ap (λ zs. raised_by qs (last_below n b zs (length zs))) (sym more);
    nexts = λ i s l e. push_nexts i s (omega (arith, l, ap length more)) e ∙ ap (λ zs. raised_by qs (last_below n (get_or zs i 0 % n) zs i)) (sym more);
  }

-- one hole more, once the chain of its member passes it over
module _ (n g : ℕ) (qs hs links heads : List ℕ) (q s : ℕ) (a : AreHoles g qs (length hs)) (w : q < length (without qs hs)) (at : suc s ≡ raised_by qs (suc q)) (k : IsChained n qs hs links heads) where
  abbrev ds : List ℕ
  ds = without qs hs

  -- the link of the member among the members that are there
  abbrev next : ℕ
  next = last_below n (get_or ds q 0 % n) ds q

  next_le : next ≤ q
  next_le = last_le n (get_or ds q 0 % n) ds q

  link : get_or links s 0 ≡ raised_by qs next
  link = k.nexts q s w at

  linked : (b : ℕ) → is_in_bucket n b (get_or ds q 0) ≡ true → next ≡ last_below n b ds q
  linked b e = let p : get_or ds q 0 % n ≡ b = grind (arith, nat_tests) in ap (λ x. last_below n x ds q) p

  -- no place goes to the member then
  never : (p : ℕ) → passed q next p ≡ q + 1 → ⊥
  never p e = by_test (p == q + 1) refl e where
    by_test : (c : Bool) → (p == q + 1) ≡ c → (if c then next else p) ≡ q + 1 → ⊥
    by_test true t y = omega (arith, next_le, y)
    by_test false t y = absurd (grind (arith, nat_tests))

  goes : (p : ℕ) → passed s (get_or links s 0) (raised_by qs p) ≡ raised_by (qs ++ q ∷ []) (lowered q (passed q next p))
  goes p =
      ap (λ x. passed s x (raised_by qs p)) link ∙ Holes.passed_raised qs q s next p at
      ∙ ap (raised_by qs) (sym (Holes.raised_lowered q (passed q next p) (never p))) ∙ sym (Holes.raised_by-last q qs (lowered q (passed q next p)))

  left : without (qs ++ q ∷ []) hs ≡ remove ds q
  left = Holes.without-last q qs hs

  fewer : length (remove ds q) + 1 ≡ length ds
  fewer = length-remove ds q w

  module _ (links' heads' : List ℕ) (size : length links' ≡ length links) (count : length heads' ≡ length heads)
      (links_passed : (i t : ℕ) → i < length ds → suc t ≡ raised_by qs (suc i) → get_or links' t 0 ≡ passed s (get_or links s 0) (get_or links t 0))
      (heads_passed : (b : ℕ) → b < n → get_or heads' b 0 ≡ passed s (get_or links s 0) (get_or heads b 0)) where
    hole_starts : (b : ℕ) → b < n → get_or heads' b 0 ≡ raised_by (qs ++ q ∷ []) (last_below n b (remove ds q) (length (remove ds q)))
    hole_starts b l =
        let m = length (remove ds q) in
        let e : length ds ≡ suc m = omega (arith, fewer) in
        heads_passed b l ∙ ap (passed s (get_or links s 0)) (k.starts b l) ∙ goes (last_below n b ds (length ds))
        ∙ ap (raised_by (qs ++ q ∷ [])) (ap (λ j. lowered q (passed q next (last_below n b ds j))) e ∙ last_after n b ds q next w (linked b) m (omega (arith, fewer, w)))

    hole_nexts : (i t : ℕ) → i < length (remove ds q) → suc t ≡ raised_by qs (raised q (suc i)) → get_or links' t 0 ≡ raised_by (qs ++ q ∷ []) (last_below n (get_or (remove ds q) i 0 % n) (remove ds q) i)
    hole_nexts i t l e = by_test (nat_le q i) refl where
      by_test : (c : Bool) → nat_le q i ≡ c → get_or links' t 0 ≡ raised_by (qs ++ q ∷ []) (last_below n (get_or (remove ds q) i 0 % n) (remove ds q) i)
      by_test true y =
          let f : q ≤ i = grind (arith, nat_tests) in
          let z : suc t ≡ raised_by qs (suc (suc i)) = e ∙ ap (raised_by qs) (Holes.raised_high q (suc i) (omega (arith, f))) in
          let v : suc i < length ds = omega (arith, fewer, l) in
          let b : ℕ = get_or ds (suc i) 0 % n in
          let d : get_or (remove ds q) i 0 ≡ get_or ds (suc i) 0 = get_or-remove_above ds q 0 i f w ∙ ap (λ j. get_or ds j 0) (add-one i) in
          links_passed (suc i) t v z ∙ ap (passed s (get_or links s 0)) (k.nexts (suc i) t v z) ∙ goes (last_below n b ds (suc i))
          ∙ ap (raised_by (qs ++ q ∷ [])) (last_after n b ds q next w (linked b) i f ∙ ap (λ x. last_below n (x % n) (remove ds q) i) (sym d))
      by_test false y =
          let f : i < q = grind (arith, nat_tests) in
          let z : suc t ≡ raised_by qs (suc i) = e ∙ ap (raised_by qs) (Holes.raised_low q (suc i) (omega (arith, f))) in
          let v : i < length ds = omega (arith, f, w) in
          let b : ℕ = get_or ds i 0 % n in
          let d : get_or (remove ds q) i 0 ≡ get_or ds i 0 = get_or-remove_below ds q 0 i f w in
          let u : last_below n b ds i ≤ q = omega (arith, f, last_le n b ds i) in
          let low : lowered q (passed q next (last_below n b ds i)) ≡ last_below n b ds i = ap (lowered q) (passed_low q next (last_below n b ds i) u) ∙ Holes.lowered_low q (last_below n b ds i) u in
          links_passed i t v z ∙ ap (passed s (get_or links s 0)) (k.nexts i t v z) ∙ goes (last_below n b ds i)
          ∙ ap (raised_by (qs ++ q ∷ [])) (low ∙ sym (last_before n b ds q next w (linked b) i (omega (arith, f))) ∙ ap (λ x. last_below n (x % n) (remove ds q) i) (sym d))

    pub IsChained-hole : IsChained n (qs ++ q ∷ []) hs links' heads'
    IsChained-hole = record {
      count = count ∙ k.count;
      size = size ∙ k.size;
      starts = λ b l. hole_starts b l ∙ ap (λ zs. raised_by (qs ++ q ∷ []) (last_below n b zs (length zs))) (sym left);
      nexts = λ i t l e. hole_nexts i t (omega (arith, l, ap length left)) (e ∙ Holes.raised_by-last q qs (suc i)) ∙ ap (λ zs. raised_by (qs ++ q ∷ []) (last_below n (get_or zs i 0 % n) zs i)) (sym left);
    }

  -- what goes to the member's place, as a place among the members that are there
  abbrev Goes : ℕ → Type 0
  Goes p = p ≡ s + 1

  to_member : (p : ℕ) → Goes (raised_by qs p) → p ≡ q + 1
  to_member p e = Holes.raised_by_same qs p (suc q) (e ∙ add-one s ∙ at) ∙ sym (add-one q)

  head_to : (b : ℕ) → b < n → Goes (get_or heads b 0) → last_below n b ds (length ds) ≡ q + 1
  head_to b l e = to_member (last_below n b ds (length ds)) (sym (k.starts b l) ∙ e)

  link_to : (i t : ℕ) → i < length ds → suc t ≡ raised_by qs (suc i) → Goes (get_or links t 0) → last_below n (get_or ds i 0 % n) ds i ≡ q + 1
  link_to i t l z e = to_member (last_below n (get_or ds i 0 % n) ds i) (sym (k.nexts i t l z) ∙ e)

  module _ (x : ℕ) where
    -- where the head of its bucket goes to it, nothing else does
    head_passed : (b c : ℕ) → b < n → Goes (get_or heads b 0) → c < n → get_or (set heads b x) c 0 ≡ passed s x (get_or heads c 0)
    head_passed b c l e m = by_test (c == b) refl where
      by_test : (t : Bool) → (c == b) ≡ t → get_or (set heads b x) c 0 ≡ passed s x (get_or heads c 0)
      by_test true t =
          let o : b ≡ c = grind (arith, nat_tests) in
          let v : c < length heads = omega (arith, m, k.count) in
          ap (λ y. get_or (set heads y x) c 0) o ∙ get_or-set_same heads c x 0 v ∙ passed_at s x (get_or heads c 0) (ap (λ y. get_or heads y 0) (sym o) ∙ e)
      by_test false t =
          let o : c ≢ b = grind (arith, nat_tests) in
          get_or-set_other heads b c x 0 o ∙ passed_other s x (get_or heads c 0) (λ y. o (sym (own_bucket n ds q w c (length ds) (head_to c m y)) ∙ own_bucket n ds q w b (length ds) (head_to b l e)))

    links_same : (b : ℕ) → b < n → Goes (get_or heads b 0) → (i t : ℕ) → i < length ds → suc t ≡ raised_by qs (suc i) → get_or links t 0 ≡ passed s x (get_or links t 0)
    links_same b l e i t m z = passed_other s x (get_or links t 0) (λ y. once n ds q w b (length ds) (get_or ds i 0 % n) i (head_to b l e) (link_to i t m z y) refl m)

    -- where the link of a member goes to it, nothing else does
    link_passed : (j u : ℕ) → j < length ds → suc u ≡ raised_by qs (suc j) → Goes (get_or links u 0) → (i t : ℕ) → i < length ds → suc t ≡ raised_by qs (suc i) → get_or (set links u x) t 0 ≡ passed s x (get_or links t 0)
    link_passed j u l o e i t m z = by_test (i == j) (nat_le i j) refl refl where
      by_test : (c d : Bool) → (i == j) ≡ c → nat_le i j ≡ d → get_or (set links u x) t 0 ≡ passed s x (get_or links t 0)
      by_test true d f y =
          let r : j ≡ i = grind (arith, nat_tests) in
          let same : u ≡ t = omega (arith, o, z, ap (λ r. raised_by qs (suc r)) r) in
          let v : t < length links = omega (arith, k.size, z, Holes.raised_by-within g qs (length hs) (length ds) (suc i) a (Holes.length-without g qs hs (length hs) refl a) (omega (arith, m))) in
          ap (λ y. get_or (set links y x) t 0) same ∙ get_or-set_same links t x 0 v ∙ passed_at s x (get_or links t 0) (ap (λ y. get_or links y 0) (sym same) ∙ e)
      by_test false true f y =
          let v : i < j = grind (arith, nat_tests) in
          let r : t ≢ u = λ h. absurd (omega (arith, z, o, h, Holes.raised_by_less qs (suc i) (suc j) (omega (arith, v)))) in
          get_or-set_other links u t x 0 r ∙ passed_other s x (get_or links t 0) (λ y. once n ds q w (get_or ds j 0 % n) j (get_or ds i 0 % n) i (link_to j u l o e) (link_to i t m z y) refl v)
      by_test false false f y =
          let v : j < i = grind (arith, nat_tests) in
          let r : t ≢ u = λ h. absurd (omega (arith, z, o, h, Holes.raised_by_less qs (suc j) (suc i) (omega (arith, v)))) in
          get_or-set_other links u t x 0 r ∙ passed_other s x (get_or links t 0) (λ y. once n ds q w (get_or ds i 0 % n) i (get_or ds j 0 % n) j (link_to i t m z y) (link_to j u l o e) refl v)

    heads_same : (j u : ℕ) → j < length ds → suc u ≡ raised_by qs (suc j) → Goes (get_or links u 0) → (b : ℕ) → b < n → get_or heads b 0 ≡ passed s x (get_or heads b 0)
    heads_same j u l o e b m = passed_other s x (get_or heads b 0) (λ y. once n ds q w b (length ds) (get_or ds j 0 % n) j (head_to b m y) (link_to j u l o e) refl l)

  -- the head of its bucket goes to the member
  pub IsChained-head : (b : ℕ) → b < n → Goes (get_or heads b 0) → IsChained n (qs ++ q ∷ []) hs links (set heads b (get_or links s 0))
  IsChained-head b l e = IsChained-hole links (set heads b (get_or links s 0)) refl (length-set heads b (get_or links s 0)) (λ i t m z. links_same (get_or links s 0) b l e i t m z) (λ c m. head_passed (get_or links s 0) b c l e m)

  -- the link of another member does
  pub IsChained-link : (j u : ℕ) → j < length ds → suc u ≡ raised_by qs (suc j) → Goes (get_or links u 0) → IsChained n (qs ++ q ∷ []) hs (set links u (get_or links s 0)) heads
  IsChained-link j u l o e = IsChained-hole (set links u (get_or links s 0)) heads (length-set links u (get_or links s 0)) refl (λ i t m z. link_passed (get_or links s 0) j u l o e i t m z) (λ b m. heads_same (get_or links s 0) j u l o e b m)

-- the same chains by other holes, which raise each place alike and leave the same members
pub IsChained-same : (n : ℕ) (qs rs hs links heads : List ℕ) → ((p : ℕ) → raised_by rs p ≡ raised_by qs p) → without rs hs ≡ without qs hs → IsChained n qs hs links heads → IsChained n rs hs links heads
IsChained-same n qs rs hs links heads e w k = record {
  count = k.count;
  size = k.size;
  starts = λ b l. k.starts b l ∙ ap (λ zs. raised_by qs (last_below n b zs (length zs))) (sym w) ∙ sym (e (last_below n b (without rs hs) (length (without rs hs))));
  nexts = λ i s l z.
      k.nexts i s (omega (arith, l, ap length w)) (z ∙ e (suc i))
      ∙ ap (λ zs. raised_by qs (last_below n (get_or zs i 0 % n) zs i)) (sym w) ∙ sym (e (last_below n (get_or (without rs hs) i 0 % n) (without rs hs) i));
}

-- a hole that stands last is cut off
module _ (n g q : ℕ) (qs hs links heads : List ℕ) (a : AreHoles g (q ∷ qs) (length hs)) (e : q + 1 ≡ length hs) (k : IsChained n (q ∷ qs) hs links heads) where
  pub remove-end : remove hs q ≡ take q hs
  remove-end = ap (λ ys. take q hs ++ ys) (drop_all (suc q) hs (omega (arith, e))) ∙ append-nil (take q hs)

  abbrev es : List ℕ
  es = without qs (take q hs)

  cut_length : q ≡ length (take q hs)
  cut_length = sym (length-take-le q hs (omega (arith, e)))

  cut_whole : length es + length qs ≡ q
  cut_whole = Holes.length-without g qs (take q hs) q cut_length a.1.1

  low : (p : ℕ) → p ≤ length es → raised q (raised_by qs p) ≡ raised_by qs p
  low p l = Holes.raised_low q (raised_by qs p) (Holes.raised_by-within g qs q (length es) p a.1.1 cut_whole l)

  pub IsChained-cut : IsChained n qs (take q hs) (take q links) heads
  IsChained-cut = record {
    count = k.count;
    size = length-take-le q links (omega (arith, e, k.size)) ∙ cut_length;
    starts = λ b l. k.starts b l ∙ ap (λ zs. raised q (raised_by qs (last_below n b (without qs zs) (length (without qs zs))))) remove-end ∙ low (last_below n b es (length es)) (last_le n b es (length es));
    nexts = λ i s l z.
        let y : suc s ≡ raised q (raised_by qs (suc i)) = z ∙ sym (low (suc i) (omega (arith, l))) in
        let v : s < q = omega (arith, z, Holes.raised_by-within g qs q (length es) (suc i) a.1.1 cut_whole (omega (arith, l))) in
        let w : i < length (without qs (remove hs q)) = omega (arith, l, ap (λ zs. length (without qs zs)) remove-end) in
        get_or-take q links s 0 v ∙ k.nexts i s w y ∙ ap (λ zs. raised q (raised_by qs (last_below n (get_or (without qs zs) i 0 % n) (without qs zs) i))) remove-end
        ∙ low (last_below n (get_or es i 0 % n) es i) (omega (arith, l, last_le n (get_or es i 0 % n) es i));
  }

-- the last member is gone, behind which there is no hole: it was the head of its chain
module _ (n g m : ℕ) (qs hs links heads : List ℕ) (p : 0 < n) (e : m + 1 ≡ length hs) (a : AreHoles g qs m) (k : IsChained n qs hs links heads) where
  abbrev ps : List ℕ
  ps = without qs (take m hs)

  abbrev last : ℕ
  last = get_or hs m 0

  taken : m ≡ length (take m hs)
  taken = sym (length-take-le m hs (omega (arith, e)))

  whole_taken : hs ≡ take m hs ++ last ∷ []
  whole_taken = sym (take_all (suc m) hs (omega (arith, e))) ∙ take-suc hs m 0 (omega (arith, e))

  pub without-pop : without qs hs ≡ ps ++ last ∷ []
  without-pop = ap (without qs) whole_taken ∙ Holes.without-append g qs (take m hs) (last ∷ []) m taken a

  pop_whole : length ps + length qs ≡ m
  pop_whole = Holes.length-without g qs (take m hs) m taken a

  pub length-pop : length (without qs hs) ≡ length ps + 1
  length-pop = ap length without-pop ∙ length_push ps last

  pop_starts : (b : ℕ) → b < n → get_or (set heads (last % n) (get_or links m 0)) b 0 ≡ raised_by qs (last_below n b ps (length ps))
  pop_starts b l = by_test (is_in_bucket n b last) refl where
    by_test : (c : Bool) → is_in_bucket n b last ≡ c → get_or (set heads (last % n) (get_or links m 0)) b 0 ≡ raised_by qs (last_below n b ps (length ps))
    by_test true t =
        let d : last % n ≡ b = grind (arith, nat_tests) in
        let w : b < length heads = omega (arith, l, k.count) in
        let at : suc m ≡ raised_by qs (suc (length ps)) = sym (Holes.raised_by-past g qs m (length ps) a pop_whole) in
        ap (λ z. get_or (set heads z (get_or links m 0)) b 0) d ∙ get_or-set_same heads b (get_or links m 0) 0 w
        ∙ k.nexts (length ps) m (omega (arith, length-pop)) at
        ∙ ap (λ zs. raised_by qs (last_below n (get_or zs (length ps) 0 % n) zs (length ps))) without-pop
        ∙ ap (λ z. raised_by qs (last_below n (z % n) (ps ++ last ∷ []) (length ps))) (get_or_push ps last 0 (length ps) refl)
        ∙ ap (λ z. raised_by qs (last_below n z (ps ++ last ∷ []) (length ps))) d
        ∙ ap (raised_by qs) (last_push_same n b last ps (length ps) (omega arith))
    by_test false t =
        let d : b ≢ last % n = grind (arith, nat_tests) in
        get_or-set_other heads (last % n) b (get_or links m 0) 0 d ∙ k.starts b l
        ∙ ap (λ zs. raised_by qs (last_below n b zs (length zs))) without-pop ∙ ap (raised_by qs) (last_push_out n b last ps t)

  pub IsChained-pop : IsChained n qs (take m hs) (take m links) (set heads (last % n) (get_or links m 0))
  IsChained-pop = record {
    count = length-set heads (last % n) (get_or links m 0) ∙ k.count;
    size = length-take-le m links (omega (arith, e, k.size)) ∙ taken;
    starts = pop_starts;
    nexts = λ i s l z.
        let v : s < m = omega (arith, z, Holes.raised_by-within g qs m (length ps) (suc i) a pop_whole (omega (arith, l))) in
        get_or-take m links s 0 v ∙ k.nexts i s (omega (arith, l, length-pop)) z
        ∙ ap (λ zs. raised_by qs (last_below n (get_or zs i 0 % n) zs i)) without-pop
        ∙ ap (λ y. raised_by qs (last_below n (y % n) (ps ++ last ∷ []) i)) (get_or_append_left ps (last ∷ []) 0 i l)
        ∙ ap (raised_by qs) (last_push_same n (get_or ps i 0 % n) last ps i (omega (arith, l)));
  }
