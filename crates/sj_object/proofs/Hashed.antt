-- The hashes of a map's members, and the members that a lookup compares.
use Rattle.std.specs.Bool.{if◌then◌else◌}
use Rattle.std.proofs.Common.{◌≡◌, ℕ, zero, suc, ◌+◌, ◌*◌, ◌<◌, ◌%◌, ◌==◌, Bool, true, false, List, [], ◌∷◌, ◌++◌, map, length, get_or, slice_set, take, drop, bytes_eq, Option, Some, None, IsSome, nat_le, ◌≤◌, subst, refl, sym, ap, ◌∙◌, arith, true≢false, count_by}
use Rattle.std.proofs.lemmas.List.{length-map, length_push, map-append}
use Rattle.std.proofs.lemmas.Nat.{pow_pos}
use Rattle.std.proofs.lemmas.List.Sums.{sum_by-cons}
use Rattle.std.specs.List.{sum_by, take-map, drop-map, remove}
use Rattle.std.proofs.lemmas.Bool.Decides.{nat_tests}
use Rattle.std.proofs.lemmas.Slice.Eq.{bytes_eq-Decides}
use Rattle.sj_text_core.specs.Keep.{is_seen}
use base.Stored.{coded_bool, Coded-set}
use Rattle.std.specs.declared.cmp.PartialEq as eq
use Rattle.sj_object.specs.declared.key.KeyText as text
use Rattle.sj_object.specs.declared.hasher.KeyHasher as hasher
use Rattle.sj_object.specs.declared.map.HashMap.TheInside.{Inside}
use Rattle.sj_object.specs.Texts.{no_repeats}
use Rattle.sj_object.specs.Entries.{Entry, entry_texts, entries_of}
use Rattle.sj_object.specs.Chains.{is_in_bucket}
use Rattle.sj_object.specs.declared.map.store.Store.{Store}
use Rattle.sj_object.specs.declared.map.store.Store.TheVariants.{Plain, Hashed}
use Rattle.sj_object.specs.Index.{NeedsHash, HasRoom, buckets_for}
use Rattle.sj_object.specs.inner.Index.{HasRoom-prop}
use Rattle.sj_object.specs.Stored.{pairs_of, IsIndexOf, buckets_of}
use Rattle.sj_object.specs.Steps.{chain, walk, found_on}
use Rattle.sj_object.proofs.Walked.{Agrees, count}
use Rattle.sj_object.proofs.Position.{IsFound}

pub text_at : {K V : Type 0} (t : K → List ℕ) (ps : List (K × V)) (i : ℕ) (q : K × V) → i < length ps → q ≡ get_or ps i q → get_or (entry_texts (entries_of t ps)) i [] ≡ t q.0
text_at t [] i q l e = absurd (omega arith)
text_at t (p ∷ ps) zero q l e = ap (λ r. t r.0) (sym e)
text_at t (p ∷ ps) (suc i) q l e = text_at t ps i q (omega arith) e

pub sum_by-map : {X Y : Type 0} (F : Y → ℕ) (f : X → Y) (xs : List X) → sum_by F (map f xs) ≡ sum_by (λ x. F (f x)) xs
sum_by-map F f [] = refl
sum_by-map F f (x ∷ xs) = sum_by-cons F (f x) (map f xs) ∙ ap (λ m. F (f x) + m) (sum_by-map F f xs) ∙ sym (sum_by-cons (λ y. F (f y)) x xs)

pub texts-length : {K V : Type 0} (t : K → List ℕ) (ps : List (K × V)) → length (entry_texts (entries_of t ps)) ≡ length ps
texts-length {K} {V} t ps = length-map (entries_of t ps) (λ (f : Entry K V). f.0.1) ∙ length-map ps (λ (p : K × V). ((p.0, t p.0), p.1))

abbrev pub hashes : {K V : Type 0} → (K → List ℕ) → (List ℕ → ℕ) → List (K × V) → List ℕ
hashes {K} {V} t H ps = map (λ (p : K × V). H (t p.0)) ps

pub hashes-length : {K V : Type 0} (t : K → List ℕ) (H : List ℕ → ℕ) (ps : List (K × V)) → length (hashes t H ps) ≡ length ps
hashes-length {K} {V} t H ps = length-map ps (λ (p : K × V). H (t p.0))

pub entries-length : {K V : Type 0} (t : K → List ℕ) (ps : List (K × V)) → length (entries_of t ps) ≡ length ps
entries-length {K} {V} t ps = length-map ps (λ (p : K × V). ((p.0, t p.0), p.1))

module _ {K V : Type 0} (t : K → List ℕ) (H : List ℕ → ℕ) (k : List ℕ) where
  same_at : (ps : List (K × V)) (i : ℕ) → i < length (entry_texts (entries_of t ps)) → bytes_eq k (get_or (entry_texts (entries_of t ps)) i []) ≡ true → get_or (hashes t H ps) i 0 ≡ H k
  same_at [] i l e = absurd (omega arith)
  same_at (p ∷ ps) zero l e = ap H (sym ((bytes_eq-Decides k (t p.0)).0 e))
  same_at (p ∷ ps) (suc i) l e = same_at ps i (omega arith) e

  pub agrees : (ps : List (K × V)) (hs : List ℕ) (x : ℕ) → hs ≡ hashes t H ps → x ≡ H k → Agrees x k hs (entry_texts (entries_of t ps))
  agrees ps hs x e q = record {
    size = ap length e ∙ length-map ps (λ (p : K × V). H (t p.0)) ∙ sym (texts-length t ps);
    same = λ i l b. ap (λ gs. get_or gs i 0) e ∙ same_at ps i l b ∙ sym q;
  }

  chained : (n i : ℕ) (ps : List (K × V)) → chain H n k (drop i (entries_of t ps)) ≡ count n (H k % n) (hashes t H ps) i
  chained n i ps =
      ap (chain H n k) (drop-map (λ (p : K × V). ((p.0, t p.0), p.1)) i ps) ∙ sum_by-map (λ (e : Entry K V). if H e.0.1 % n == H k % n then 1 else 0) (λ (p : K × V). ((p.0, t p.0), p.1)) (drop i ps)
      ∙ sym (ap (count_by (is_in_bucket n (H k % n))) (drop-map (λ (p : K × V). H (t p.0)) i ps) ∙ sum_by-map (λ h. if is_in_bucket n (H k % n) h then 1 else 0) (λ (p : K × V). H (t p.0)) (drop i ps))

  pub walk_found : (n i x : ℕ) (ps : List (K × V)) (hs : List ℕ) → IsFound t k ps i → hs ≡ hashes t H ps → x ≡ H k → walk H n k (entries_of t ps) ≡ count n (x % n) hs i
  walk_found n i x ps hs f e q =
      (λ j. chain H n k (if f.seen j then f.onward j else entries_of t ps)) ∙ chained n i ps ∙ (λ j. count n (sym q j % n) (sym e j) i)

  pub walk_absent : (n x : ℕ) (ps : List (K × V)) (hs : List ℕ) → is_seen k (entry_texts (entries_of t ps)) ≡ false → hs ≡ hashes t H ps → x ≡ H k → walk H n k (entries_of t ps) ≡ count n (x % n) hs 0
  walk_absent n x ps hs u e q =
      (λ j. chain H n k (if u j then found_on k (entries_of t ps) else entries_of t ps)) ∙ chained n 0 ps ∙ (λ j. count n (sym q j % n) (sym e j) 0)

module _ {K V : Type 0} (t : K → List ℕ) (H : List ℕ → ℕ) where
  -- a value's change leaves the hashes
  pub hashes-set : (ps : List (K × V)) (i : ℕ) (p : K × V) (w : V) → p ≡ get_or ps i p → hashes t H (slice_set ps i (p.0, w)) ≡ hashes t H ps
  hashes-set [] i p w e = refl
  hashes-set (q ∷ ps) zero p w e = ap (λ (r : K × V). H (t r.0) ∷ hashes t H ps) e
  hashes-set (q ∷ ps) (suc i) p w e = ap (λ hs. H (t q.0) ∷ hs) (hashes-set ps i p w e)

  pub hashes-remove : (ps : List (K × V)) (i : ℕ) → hashes t H (remove ps i) ≡ remove (hashes t H ps) i
  hashes-remove ps i = map-append (λ (p : K × V). H (t p.0)) (take i ps) (drop (suc i) ps) ∙ (λ j. sym (take-map (λ (p : K × V). H (t p.0)) i ps) j ++ sym (drop-map (λ (p : K × V). H (t p.0)) (suc i) ps) j)

  pub hashes-take : (ps : List (K × V)) (m : ℕ) → hashes t H (take m ps) ≡ take m (hashes t H ps)
  hashes-take ps m = sym (take-map (λ (p : K × V). H (t p.0)) m ps)

  pub hashes-last : (ps : List (K × V)) (p : K × V) → hashes t H (ps ++ p ∷ []) ≡ hashes t H ps ++ H (t p.0) ∷ []
  hashes-last ps p = map-append (λ (q : K × V). H (t q.0)) ps (p ∷ [])

-- one hash more, which is read only where there are buckets then
pub IsIndexOf-last : {K V : Type 0} (hs : List ℕ) (h x : ℕ) (o : Option ℕ) (b : Store K V) → IsIndexOf (hs ++ h ∷ []) b → buckets_of b ≡ buckets_for (length hs + 1) o → (NeedsHash (length hs) o → h ≡ x) → IsIndexOf (hs ++ x ∷ []) b
IsIndexOf-last hs h x (Some n) b k e f = subst (λ y. IsIndexOf (hs ++ y ∷ []) b) (f tt) k
IsIndexOf-last {K} {V} hs h x None b k e f = by_test (nat_le 32 (length hs)) refl where
  by_test : (c : Bool) → nat_le 32 (length hs) ≡ c → IsIndexOf (hs ++ x ∷ []) b
  by_test true q = let r : 32 ≤ length hs = grind (arith, nat_tests) in subst (λ y. IsIndexOf (hs ++ y ∷ []) b) (f r) k
  by_test false q = let l : length hs + 1 ≤ 32 = grind (arith, nat_tests) in plain l b (e ∙ small (length hs + 1) l) where
    plain : length hs + 1 ≤ 32 → (i : Store K V) → buckets_of i ≡ None → IsIndexOf (hs ++ x ∷ []) i
    plain l (Plain v) z = omega (arith, l, length_push hs x)
    plain l (Hashed t) z = cc

    small : (m : ℕ) → m ≤ 32 → buckets_for m None ≡ None
    small m l = let y : nat_le m 32 ≡ true = grind (arith, nat_tests) in λ j. if y j then None else Some 64

-- so too, where the hashes are those of the members
pub IsIndexOf-read : {K V : Type 0} (t : K → List ℕ) (H : List ℕ → ℕ) (old b : Store K V) (h x : ℕ) → IsIndexOf (hashes t H (pairs_of old) ++ h ∷ []) b → buckets_of b ≡ buckets_for (length (pairs_of old) + 1) (buckets_of old)
    → (NeedsHash (length (entries_of t (pairs_of old))) (buckets_of old) → h ≡ x) → IsIndexOf (hashes t H (pairs_of old) ++ x ∷ []) b
IsIndexOf-read t H old b h x k e f =
    let ps = pairs_of old in
    let n = hashes-length t H ps in
    IsIndexOf-last (hashes t H ps) h x (buckets_of old) b k (e ∙ ap (λ m. buckets_for (m + 1) (buckets_of old)) (sym n)) (λ z. f (subst (λ m. NeedsHash m (buckets_of old)) (n ∙ sym (entries-length t ps)) z))

-- fields that agree in what is data are the same
pub same_inside : {K V S : Type 0} {G : text.Ghosts K} {E : eq.Ghosts K} {H : hasher.Ghosts S} (m : Inside K V S G E H) (d : no_repeats (entry_texts (entries_of G.text_of (pairs_of m.store))) ≡ true)
    (r : HasRoom (length (entries_of G.text_of (pairs_of m.store))) (buckets_of m.store)) → ◌≡◌ {A = Inside K V S G E H} (record { store = m.store; hasher = m.hasher; distinct = d; room = r }) m
same_inside {K} {V} {S} {G} m d r = λ i. record {
  store = m.store;
  hasher = m.hasher;
  distinct = Coded-set coded_bool (no_repeats (entry_texts (entries_of G.text_of (pairs_of m.store)))) true d m.distinct i;
  room = HasRoom-prop (length (entries_of G.text_of (pairs_of m.store))) (buckets_of m.store) r m.room i;
}

pub needs_where_some : (m : ℕ) (o : Option ℕ) → IsSome o → NeedsHash m o
needs_where_some m None s = absurd (true≢false (sym s))
needs_where_some m (Some n) s = tt

pub has_room : {K V : Type 0} (hs : List ℕ) (i : Store K V) → IsIndexOf hs i → HasRoom (length hs) (buckets_of i)
has_room hs (Plain v) h = h
has_room hs (Hashed b) h =
    let n = h.table.linked.count in
    let p = pow_pos b.value.table.bits in
    (omega (arith, n, p), omega (arith, n, h.table.room, ap length h.same))

pub room_of : {K V : Type 0} (t : K → List ℕ) (ps : List (K × V)) (hs : List ℕ) (i : Store K V) → IsIndexOf hs i → length hs ≡ length ps → HasRoom (length (entries_of t ps)) (buckets_of i)
room_of t ps hs i h e = subst (λ n. HasRoom n (buckets_of i)) (e ∙ sym (entries-length t ps)) (has_room hs i h)

pub room_fewer : (n m : ℕ) (o : Option ℕ) → n ≤ m → HasRoom m o → HasRoom n o
room_fewer n m None l h = omega (arith, l, h)
room_fewer n m (Some k) l h = (h.0, omega (arith, l, h.1))

-- where there is room, the buckets stay
pub buckets_kept : (n m : ℕ) (o : Option ℕ) → m ≡ n → HasRoom n o → o ≡ buckets_for m o
buckets_kept n m None e h = let y : nat_le m 32 ≡ true = grind (arith, nat_tests) in λ j. if sym y j then None else Some 64
buckets_kept n m (Some k) e h = let l : n ≤ k = h.1 in let y : nat_le m k ≡ true = grind (arith, nat_tests) in λ j. if sym y j then Some k else Some (2 * k)
