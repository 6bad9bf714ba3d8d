-- Where a text stands among the keys, and what the calls of a map answer and leave there.
use Rattle.std.proofs.Common.{◌≡◌, ℕ, suc, ◌+◌, ◌<◌, Bool, true, false, ◌||◌, List, [], ◌∷◌, ◌++◌, length, get_or, slice_set, drop, zero, true≢false, Option, Some, None, is_some, refl, sym, ap, ◌∙◌, arith, bytes_eq}
use Rattle.std.specs.List.{position_from, remove}
use Rattle.std.specs.Bool.{if◌then◌else◌}
use Rattle.sj_text_core.specs.Keep.{is_seen}
use Rattle.std.proofs.lemmas.Slice.Eq.{bytes_eq-Decides}
use Rattle.std.proofs.lemmas.Bool.{or_parts}
use Rattle.sj_object.specs.Texts.{no_repeats}
use Rattle.sj_object.specs.inner.Texts.{not_and}
use Rattle.sj_object.specs.Steps.{found_on}
use Rattle.sj_object.specs.Entries.{Entry, entry_texts, entries_of}
use Rattle.sj_object.specs.Edits.{lookup, set_value, put_entry, cut_entry, nth_value, set_value_at}

module _ {K V : Type 0} (t : K → List ℕ) (k : List ℕ) where
  abbrev pub test : K × V → Bool
  test p = bytes_eq k (t p.0)

  -- the first pair with the text k stands at j
  pub record IsFound (ps : List (K × V)) (j : ℕ) : Type 0 where
    pub within : j < length ps
    pub lookup_at : (x : K × V) → x ≡ get_or ps j x → lookup k (entries_of t ps) ≡ Some x.1
    pub set_at : (x : K × V) (w : V) → x ≡ get_or ps j x → entries_of t (slice_set ps j (x.0, w)) ≡ set_value k w (entries_of t ps)
    pub put_at : (x : K × V) (q : K) (w : V) → x ≡ get_or ps j x → t q ≡ k → entries_of t (slice_set ps j (x.0, w)) ≡ put_entry (q, t q) w (entries_of t ps)
    pub cut_at : entries_of t (remove ps j) ≡ cut_entry k (entries_of t ps)
    pub place : (o : ℕ) → position_from test o ps ≡ Some (o + j)
    pub seen : is_seen k (entry_texts (entries_of t ps)) ≡ true
    pub there : (w : V) (q : K) → t q ≡ k → set_value_at j w (entries_of t ps) ≡ put_entry (q, t q) w (entries_of t ps)
    pub set_there : (w : V) → set_value_at j w (entries_of t ps) ≡ set_value k w (entries_of t ps)
    pub value_there : nth_value j (entries_of t ps) ≡ lookup k (entries_of t ps)
    pub onward : found_on k (entries_of t ps) ≡ drop j (entries_of t ps)

  -- no pair has the text k
  pub record IsAbsent (ps : List (K × V)) : Type 0 where
    pub lookup_none : lookup k (entries_of t ps) ≡ None
    pub put_last : (q : K) (w : V) → t q ≡ k → entries_of t (ps ++ (q, w) ∷ []) ≡ put_entry (q, t q) w (entries_of t ps)
    pub cut_none : cut_entry k (entries_of t ps) ≡ entries_of t ps
    pub unseen : is_seen k (entry_texts (entries_of t ps)) ≡ false
    pub placeless : (o : ℕ) → position_from test o ps ≡ None

  module _ (p : K × V) (ps : List (K × V)) where
    -- the entries after a change, by whether the first has the text
    abbrev after_set : Bool → V → List ((K × List ℕ) × V)
    after_set b w = if b then ((p.0, t p.0), w) ∷ entries_of t ps else ((p.0, t p.0), p.1) ∷ set_value k w (entries_of t ps)

    abbrev after_put : Bool → K → V → List ((K × List ℕ) × V)
    after_put b q w = if b then ((p.0, t p.0), w) ∷ entries_of t ps else ((p.0, t p.0), p.1) ∷ put_entry (q, t q) w (entries_of t ps)

    abbrev after_cut : Bool → List ((K × List ℕ) × V)
    after_cut b = if b then entries_of t ps else ((p.0, t p.0), p.1) ∷ cut_entry k (entries_of t ps)

    here : test p ≡ true → IsFound (p ∷ ps) 0
    here e = record {
      within = omega arith;
      lookup_at = λ x q. (λ i. if e i then Some p.1 else lookup k (entries_of t ps)) ∙ (λ i. Some (sym q i).1);
      set_at = λ x w q. (λ i. (((q i).0, t (q i).0), w) ∷ entries_of t ps) ∙ sym (λ i. after_set (e i) w);
      put_at = λ x q w f h. (λ i. (((f i).0, t (f i).0), w) ∷ entries_of t ps)
          ∙ sym ((λ i. after_put (bytes_eq (h i) (t p.0)) q w) ∙ (λ i. after_put (e i) q w));
      cut_at = sym (λ i. after_cut (e i));
      place = λ o. (λ i. if e i then Some o else position_from test (o + 1) ps) ∙ (let h : o ≡ o + 0 = omega arith in ap (λ m. Some m) h);
      there = λ w q h. sym ((λ i. after_put (bytes_eq (h i) (t p.0)) q w) ∙ (λ i. after_put (e i) q w));
      set_there = λ w. sym (λ i. after_set (e i) w);
      value_there = sym (λ i. if e i then Some p.1 else lookup k (entries_of t ps));
      seen = λ i. e i || is_seen k (entry_texts (entries_of t ps));
      onward = λ i. if e i then ((p.0, t p.0), p.1) ∷ entries_of t ps else found_on k (entries_of t ps);
    }

    later : (j : ℕ) → test p ≡ false → IsFound ps j → IsFound (p ∷ ps) (suc j)
    later j e f = let n : j < length ps = f.within in record {
      within = omega (arith, n);
      lookup_at = λ x q. (λ i. if e i then Some p.1 else lookup k (entries_of t ps)) ∙ f.lookup_at x q;
      set_at = λ x w q. ap (λ l. ((p.0, t p.0), p.1) ∷ l) (f.set_at x w q) ∙ sym (λ i. after_set (e i) w);
      put_at = λ x q w r h. ap (λ l. ((p.0, t p.0), p.1) ∷ l) (f.put_at x q w r h)
          ∙ sym ((λ i. after_put (bytes_eq (h i) (t p.0)) q w) ∙ (λ i. after_put (e i) q w));
      cut_at = ap (λ l. ((p.0, t p.0), p.1) ∷ l) f.cut_at ∙ sym (λ i. after_cut (e i));
      place = λ o. (λ i. if e i then Some o else position_from test (o + 1) ps) ∙ f.place (o + 1) ∙ (let h : o + 1 + j ≡ o + suc j = omega arith in ap (λ m. Some m) h);
      there = λ w q h. ap (λ l. ((p.0, t p.0), p.1) ∷ l) (f.there w q h) ∙ sym ((λ i. after_put (bytes_eq (h i) (t p.0)) q w) ∙ (λ i. after_put (e i) q w));
      set_there = λ w. ap (λ l. ((p.0, t p.0), p.1) ∷ l) (f.set_there w) ∙ sym (λ i. after_set (e i) w);
      value_there = f.value_there ∙ sym (λ i. if e i then Some p.1 else lookup k (entries_of t ps));
      seen = (λ i. e i || is_seen k (entry_texts (entries_of t ps))) ∙ f.seen;
      onward = (λ i. if e i then ((p.0, t p.0), p.1) ∷ entries_of t ps else found_on k (entries_of t ps)) ∙ f.onward;
    }

    passed : test p ≡ false → IsAbsent ps → IsAbsent (p ∷ ps)
    passed e a = record {
      lookup_none = (λ i. if e i then Some p.1 else lookup k (entries_of t ps)) ∙ a.lookup_none;
      put_last = λ q w h. ap (λ l. ((p.0, t p.0), p.1) ∷ l) (a.put_last q w h)
          ∙ sym ((λ i. after_put (bytes_eq (h i) (t p.0)) q w) ∙ (λ i. after_put (e i) q w));
      cut_none = (λ i. after_cut (e i)) ∙ ap (λ l. ((p.0, t p.0), p.1) ∷ l) a.cut_none;
      unseen = (λ i. e i || is_seen k (entry_texts (entries_of t ps))) ∙ a.unseen;
      placeless = λ o. (λ i. if e i then Some o else position_from test (o + 1) ps) ∙ a.placeless (o + 1);
    }

  absent_none : IsAbsent []
  absent_none = record { lookup_none = refl; put_last = λ q w h. refl; cut_none = refl; unseen = refl; placeless = λ o. refl }

  -- where no text stands twice, a pair with the text k is the first one
  pub found_at : (ps : List (K × V)) (i : ℕ) (x : K × V) → no_repeats (entry_texts (entries_of t ps)) ≡ true → i < length ps → x ≡ get_or ps i x → test x ≡ true → IsFound ps i
  found_at [] i x d l q e = absurd (omega arith)
  found_at (p ∷ ps) zero x d l q e = here p ps (ap test (sym q) ∙ e)
  found_at (p ∷ ps) (suc i) x d l q e =
      let n = not_and (is_seen (t p.0) (entry_texts (entries_of t ps))) _ d in
      let f = found_at ps i x n.1 (omega arith) q e in
      later p ps i (by_test (test p) refl f.seen n.0) f where
        by_test : (b : Bool) → bytes_eq k (t p.0) ≡ b → is_seen k (entry_texts (entries_of t ps)) ≡ true → is_seen (t p.0) (entry_texts (entries_of t ps)) ≡ false → b ≡ false
        by_test false r s u = refl
        by_test true r s u = absurd (true≢false (sym s ∙ ap (λ y. is_seen y (entry_texts (entries_of t ps))) ((bytes_eq-Decides k (t p.0)).0 r) ∙ u))

  -- what no text is seen in has no pair with it
  pub absent_at : (ps : List (K × V)) → is_seen k (entry_texts (entries_of t ps)) ≡ false → IsAbsent ps
  absent_at [] u = absent_none
  absent_at (p ∷ ps) u = let r = or_parts (test p) _ u in passed p ps r.0 (absent_at ps r.1)

  found_by : (b : Bool) (o i : ℕ) (p : K × V) (ps : List (K × V)) → test p ≡ b → (if b then Some o else position_from test (o + 1) ps) ≡ Some i
      → (position_from test (o + 1) ps ≡ Some i → (j : ℕ) × ((o + 1 + j ≡ i) × IsFound ps j)) → (j : ℕ) × ((o + j ≡ i) × IsFound (p ∷ ps) j)
  found_by true o i p ps q e more = (0, (some_one o i e, here p ps q)) where
    some_one : (a b : ℕ) → ◌≡◌ {A = Option ℕ} (Some a) (Some b) → a + 0 ≡ b
    some_one a b e = let h : a ≡ b = cc in omega (arith, h)
  found_by false o i p ps q e more = let r = more e in let h : o + 1 + r.0 ≡ i = r.1.0 in (suc r.0, (omega (arith, h), later p ps r.0 q r.1.1))

  found_from : (o i : ℕ) (ps : List (K × V)) → position_from test o ps ≡ Some i → (j : ℕ) × ((o + j ≡ i) × IsFound ps j)
  found_from o i [] e = cc
  found_from o i (p ∷ ps) e = found_by (test p) o i p ps refl e (found_from (o + 1) i ps)

  absent_by : (b : Bool) (o : ℕ) (p : K × V) (ps : List (K × V)) → test p ≡ b → (if b then Some o else position_from test (o + 1) ps) ≡ None
      → (position_from test (o + 1) ps ≡ None → IsAbsent ps) → IsAbsent (p ∷ ps)
  absent_by true o p ps q e more = cc
  absent_by false o p ps q e more = passed p ps q (more e)

  absent_from : (o : ℕ) (ps : List (K × V)) → position_from test o ps ≡ None → IsAbsent ps
  absent_from o [] e = absent_none
  absent_from o (p ∷ ps) e = absent_by (test p) o p ps refl e (absent_from (o + 1) ps)

  module _ {qs ps : List (K × V)} {j : List ℕ} {r : Option ℕ} where
    -- what a search in qs for the text j says of ps and k
    searched : r ≡ position_from (λ (p : K × V). bytes_eq j (t p.0)) 0 qs → j ≡ k → qs ≡ ps → r ≡ position_from test 0 ps
    searched e h d = e ∙ (λ i. position_from (λ (p : K × V). bytes_eq (h i) (t p.0)) 0 (d i))

    pub found : {i : ℕ} → r ≡ Some i → r ≡ position_from (λ (p : K × V). bytes_eq j (t p.0)) 0 qs → j ≡ k → qs ≡ ps → IsFound ps i
    found {i} s e h d = let f = found_from 0 i ps (sym (searched e h d) ∙ s) in moved f.0 i (omega (arith, f.1.0)) f.1.1 where
      moved : (a b : ℕ) → a ≡ b → IsFound ps a → IsFound ps b
      moved a b w x = coe 0 1 (n. IsFound ps (w n)) x

    pub absent : r ≡ None → r ≡ position_from (λ (p : K × V). bytes_eq j (t p.0)) 0 qs → j ≡ k → qs ≡ ps → IsAbsent ps
    absent s e h d = absent_from 0 ps (sym (searched e h d) ∙ s)

is_some_by : {V : Type 0} (b : Bool) (v : V) (r : Option V) (c : Bool) → is_some r ≡ c → is_some (if b then Some v else r) ≡ b || c
is_some_by true v r c e = refl
is_some_by false v r c e = e

pub is_some-lookup : {K V : Type 0} (k : List ℕ) (es : List (Entry K V)) → is_some (lookup k es) ≡ is_seen k (entry_texts es)
is_some-lookup k [] = refl
is_some-lookup k (e ∷ es) = is_some_by (bytes_eq k e.0.1) e.1 (lookup k es) _ (is_some-lookup k es)

pub unseen_where_none : {K V : Type 0} (k : List ℕ) (es : List (Entry K V)) → lookup k es ≡ None → is_seen k (entry_texts es) ≡ false
unseen_where_none k es e = sym (is_some-lookup k es) ∙ ap is_some e

pub none_where_unseen : {K V : Type 0} (k : List ℕ) (es : List (Entry K V)) → is_seen k (entry_texts es) ≡ false → lookup k es ≡ None
none_where_unseen {K} {V} k es u = by_value (lookup k es) (is_some-lookup k es ∙ u) where
  by_value : (o : Option V) → is_some o ≡ false → o ≡ None
  by_value None e = refl
  by_value (Some v) e = cc

-- the value at a place
pub entries-set_value_at : {K V : Type 0} (t : K → List ℕ) (ps : List (K × V)) (i : ℕ) (x : K × V) (w : V) → x ≡ get_or ps i x → entries_of t (slice_set ps i (x.0, w)) ≡ set_value_at i w (entries_of t ps)
entries-set_value_at t [] i x w e = refl
entries-set_value_at {K} {V} t (p ∷ ps) zero x w e = ap (λ (r : K × V). ((r.0, t r.0), w) ∷ entries_of t ps) e
entries-set_value_at t (p ∷ ps) (suc i) x w e = ap (λ l. ((p.0, t p.0), p.1) ∷ l) (entries-set_value_at t ps i x w e)

pub value_at-get : {K V : Type 0} (t : K → List ℕ) (ps : List (K × V)) (i : ℕ) (x : K × V) → i < length ps → x ≡ get_or ps i x → nth_value i (entries_of t ps) ≡ Some x.1
value_at-get t [] i x l e = absurd (omega arith)
value_at-get {K} {V} t (p ∷ ps) zero x l e = ap (λ (r : K × V). Some r.1) (sym e)
value_at-get t (p ∷ ps) (suc i) x l e = value_at-get t ps i x (omega arith) e

pub set_value_at-last : {K V : Type 0} (es : List (Entry K V)) (q : K × List ℕ) (v w : V) → set_value_at (length es) w (es ++ (q, v) ∷ []) ≡ es ++ (q, w) ∷ []
set_value_at-last [] q v w = refl
set_value_at-last (e ∷ es) q v w = ap (λ l. e ∷ l) (set_value_at-last es q v w)

pub value_at-last : {K V : Type 0} (es : List (Entry K V)) (q : K × List ℕ) (v : V) → nth_value (length es) (es ++ (q, v) ∷ []) ≡ Some v
value_at-last [] q v = refl
value_at-last (e ∷ es) q v = value_at-last es q v
