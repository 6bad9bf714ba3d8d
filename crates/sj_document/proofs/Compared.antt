-- Maps compared, member by member.
use Rattle.std.proofs.Common.{IsTrue, ◌≡◌, ℕ, suc, ◌+◌, ◌<◌, ◌≤◌, map, drop, get_or, drop-cons, Bool, true, false, ◌||◌, List, [], ◌∷◌, length, Option, Some, None, option_map, Bor, refl, sym, ap, ◌∙◌, subst, arith, true≢false, bytes_eq}
use Rattle.std.specs.Prelude.{MatchOption, if◌then◌else◌, IfSome}
use Rattle.std.specs.Map.Iter.{TakesFirst, deref_pair}
use Rattle.std.proofs.lemmas.Map.Iter.{rest_more}
use Rattle.std.proofs.lemmas.List.{drop_all}
use Rattle.std.proofs.lemmas.Option.{MatchOption-at_some, MatchOption-at_none}
use Rattle.std.proofs.lemmas.Slice.Eq.{bytes_eq-Decides}
use Rattle.std.proofs.lemmas.Bool.{or_parts}
use Rattle.sj_text_core.specs.Tree.{Tree, obj, items_from, Members, no_members, member}
use Rattle.sj_text_core.specs.Find.{find_member}
use Rattle.sj_text_core.specs.Keep.{is_seen}
use Rattle.sj_text_core.specs.Same.{Same, SameItems}
use Rattle.sj_text_core.specs.inner.Agree.{SameFound}
use Rattle.sj_text_core.specs.Equal.{tree_eq}
use Rattle.sj_text_core.proofs.Equal.{tree_eq-decides, both_ways}
use Rattle.sj_text_core.proofs.Equality.{found_from_at, at_from_found, none_on, same-sym}
use Rattle.sj_text_core.proofs.Comparing.{by_either, absent_by, there_by}
use Rattle.sj_text_core.proofs.Shapes.{same_items_len}
use Rattle.sj_text_core.proofs.Texts.{bytes_eq-sym}
use Rattle.sj_object.specs.Texts.{no_repeats}
use Rattle.sj_object.specs.inner.Texts.{not_and}
use Rattle.sj_object.specs.Entries.{Entry, entry_texts, entries_of}
use Rattle.sj_object.specs.Edits.{lookup}
use Rattle.sj_object.specs.Members.{entry_members}
use Rattle.sj_object.proofs.Shown.{lookup-entry_members}
use Rattle.sj_document.proofs.Subsets.{Within, within_len, within_back}
use Rattle.sj_document.proofs.Arrays.{length-items}

-- each member finds a same one in the others
abbrev pub EachFound : Members → Members → Type 0
EachFound no_members ns = Unit {0}
EachFound (member k t ms) ns = MatchOption (find_member k ns) ⊥ (λ u. Same t u) × EachFound ms ns

abbrev member_texts : Members → List (List ℕ)
member_texts no_members = []
member_texts (member k t ms) = k ∷ member_texts ms

found_by : (k l : List ℕ) (t : Tree) (ns : Members) (r : Option Tree) (b : Bool) → bytes_eq k l ≡ b → MatchOption (find_member l ns) ⊥ (λ u. Same t u)
    → ((if b then Some t else r) ≡ None → find_member k ns ≡ None) → ((r ≡ None → find_member k ns ≡ None) → SameFound r (find_member k ns)) → SameFound (if b then Some t else r) (find_member k ns)
found_by k l t ns r true d h n f = subst (λ k. MatchOption (find_member k ns) ⊥ (λ u. Same t u)) (sym ((bytes_eq-Decides k l).0 d)) h
found_by k l t ns r false d h n f = f n

each_at : (k : List ℕ) (ms ns : Members) → EachFound ms ns → (find_member k ms ≡ None → find_member k ns ≡ None) → SameFound (find_member k ms) (find_member k ns)
each_at k no_members ns h n = n refl
each_at k (member l t ms) ns h n = found_by k l t ns (find_member k ms) (bytes_eq k l) refl h.0 n (λ n. each_at k ms ns h.1 n)

absent : (k : List ℕ) (ms : Members) → is_seen k (member_texts ms) ≡ false → find_member k ms ≡ None
absent k no_members e = refl
absent k (member l t ms) e = absent_by (bytes_eq k l) (is_seen k (member_texts ms)) t (find_member k ms) e (absent k ms)

missing : (k : List ℕ) (ms : Members) → find_member k ms ≡ None → is_seen k (member_texts ms) ≡ false
missing k no_members e = refl
missing k (member l t ms) e = there_by (bytes_eq k l) (is_seen k (member_texts ms)) t (find_member k ms) e (missing k ms)

there : (k : List ℕ) (ns : Members) (P : Tree → Type 0) → MatchOption (find_member k ns) ⊥ P → is_seen k (member_texts ns) ≡ true
there k ns P h = by_either (is_seen k (member_texts ns)) _ (λ b. b) (λ b. absurd (subst (λ f. MatchOption f ⊥ P) (absent k ns b) h))

-- a text that is seen in the one list is seen in the other
pub seen_by : (x k : List ℕ) (ks ls : List (List ℕ)) (b : Bool) → bytes_eq x k ≡ b → (b || is_seen x ks) ≡ true → is_seen k ls ≡ true → (is_seen x ks ≡ true → is_seen x ls ≡ true) → is_seen x ls ≡ true
seen_by x k ks ls true d e h f = ap (λ y. is_seen y ls) ((bytes_eq-Decides x k).0 d) ∙ h
seen_by x k ks ls false d e h f = f e

each_within : (ms ns : Members) → EachFound ms ns → Within (member_texts ms) (member_texts ns)
each_within no_members ns h = λ x e. cc
each_within (member k t ms) ns h = λ x e. seen_by x k (member_texts ms) (member_texts ns) (bytes_eq x k) refl e (there k ns _ h.0) (each_within ms ns h.1 x)

pub contra : (a b : Bool) → (b ≡ true → a ≡ true) → a ≡ false → b ≡ false
contra a true f e = absurd (true≢false (sym (f refl) ∙ e))
contra a false f e = refl

-- where there are as many, without repeats, the objects are the same
same_if_each : (ms ns : Members) → no_repeats (member_texts ms) ≡ true → length (member_texts ms) ≡ length (member_texts ns) → EachFound ms ns → Same (obj ms) (obj ns)
same_if_each ms ns d e h = λ k. at_from_found k ms (find_member k ns) (each_at k ms ns h
    (λ n. absent k ns (contra (is_seen k (member_texts ms)) (is_seen k (member_texts ns)) (within_back (member_texts ms) (member_texts ns) d e (each_within ms ns h) k) (missing k ms n))))

same_within : (ms ns : Members) → Same (obj ms) (obj ns) → Within (member_texts ns) (member_texts ms)
same_within ms ns h = λ k e. by_either (is_seen k (member_texts ms)) _ (λ b. b)
    (λ b. absurd (true≢false (sym e ∙ missing k ns (none_on (find_member k ms) (find_member k ns) (absent k ms b) (found_from_at k ms (find_member k ns) (h k))))))

module _ {K V : Type 0} where
  -- each of the first entries is what its text finds in the second
  abbrev pub EachThere : List (Entry K V) → List (Entry K V) → Type 0
  EachThere [] es = Unit {0}
  EachThere (d ∷ ds) es = (lookup d.0.1 es ≡ Some d.1) × EachThere ds es

  behind : (e : Entry K V) (ds es : List (Entry K V)) → is_seen e.0.1 (entry_texts ds) ≡ false → EachThere ds es → EachThere ds (e ∷ es)
  behind e [] es n h = tt
  behind e (d ∷ ds) es n h =
      let r = or_parts (bytes_eq e.0.1 d.0.1) _ n in
      ((λ i. if bytes_eq-sym e.0.1 d.0.1 r.0 i then Some e.1 else lookup d.0.1 es) ∙ h.0, behind e ds es r.1 h.1)

  -- without repeats each entry is what its text finds
  pub each_there : (es : List (Entry K V)) → no_repeats (entry_texts es) ≡ true → EachThere es es
  each_there [] d = tt
  each_there (e ∷ es) d =
      let n = not_and (is_seen e.0.1 (entry_texts es)) _ d in
      ((λ i. if (bytes_eq-Decides e.0.1 e.0.1).1 refl i then Some e.1 else lookup e.0.1 es), behind e es es n.0 (each_there es n.1))

  module _ (f : V → Tree) where
    texts_are : (es : List (Entry K V)) → member_texts (entry_members f es) ≡ entry_texts es
    texts_are [] = refl
    texts_are (e ∷ es) = ap (λ l. e.0.1 ∷ l) (texts_are es)

    each_if_same_from : (ds es : List (Entry K V)) (ns : Members) → EachThere ds es → Same (obj (entry_members f es)) (obj ns) → EachFound (entry_members f ds) ns
    each_if_same_from [] es ns t h = tt
    each_if_same_from (d ∷ ds) es ns t h =
        let found : find_member d.0.1 (entry_members f es) ≡ Some (f d.1) = sym (lookup-entry_members f d.0.1 es) ∙ ap (option_map f) t.0 in
        (subst (λ r. SameFound r (find_member d.0.1 ns)) found (found_from_at d.0.1 (entry_members f es) (find_member d.0.1 ns) (h d.0.1)), each_if_same_from ds es ns t.1 h)

-- as many texts as entries
pub texts_len : {A B : Type 0} (es : List (Entry A B)) → length (entry_texts es) ≡ length es
texts_len [] = refl
texts_len (e ∷ es) = ap (λ n. suc n) (texts_len es)

module _ {K V L W : Type 0} (f : V → Tree) (g : W → Tree) (es : List (Entry K V)) (fs : List (Entry L W)) (d : no_repeats (entry_texts es) ≡ true) where
  mine : no_repeats (member_texts (entry_members f es)) ≡ true
  mine = ap no_repeats (texts_are f es) ∙ d

  lens : length es ≡ length fs → length (member_texts (entry_members f es)) ≡ length (member_texts (entry_members g fs))
  lens e = ap length (texts_are f es) ∙ texts_len es ∙ e ∙ sym (texts_len fs) ∙ sym (ap length (texts_are g fs))

  pub maps_same : length es ≡ length fs → EachFound (entry_members f es) (entry_members g fs) → Same (obj (entry_members f es)) (obj (entry_members g fs))
  maps_same e h = same_if_each (entry_members f es) (entry_members g fs) mine (lens e) h

  pub maps_each : Same (obj (entry_members f es)) (obj (entry_members g fs)) → EachFound (entry_members f es) (entry_members g fs)
  maps_each h = each_if_same_from f es es (entry_members g fs) (each_there es d) h

  pub maps_len : no_repeats (entry_texts fs) ≡ true → Same (obj (entry_members f es)) (obj (entry_members g fs)) → length es ≡ length fs
  maps_len d2 h = omega (arith, more, fewer, texts_len es, texts_len fs) where
    more : length (entry_texts fs) ≤ length (entry_texts es)
    more = within_len (entry_texts fs) (entry_texts es) d2 (λ x e. ap (is_seen x) (sym (texts_are f es)) ∙ same_within (entry_members f es) (entry_members g fs) h x (ap (is_seen x) (texts_are g fs) ∙ e))

    fewer : length (entry_texts es) ≤ length (entry_texts fs)
    fewer = within_len (entry_texts es) (entry_texts fs) d (λ x e. ap (is_seen x) (sym (texts_are g fs)) ∙ same_within (entry_members g fs) (entry_members f es) (same-sym (obj (entry_members f es)) (obj (entry_members g fs)) h) x (ap (is_seen x) (texts_are f es) ∙ e))

-- what an iterator over a map shows next, and what it has left, are there too
pub near_there : {K V : Type 0} (t : K → List ℕ) (es : List (Entry K V)) (s u : List (K × V)) (r : Option (Bor K × Bor V)) → EachThere (entries_of t s) es → TakesFirst deref_pair s r u
    → IfSome r (λ p. lookup (t p.0.now) es ≡ Some p.1.now) × EachThere (entries_of t u) es
near_there t es s u None h e = (tt, subst (λ u. EachThere (entries_of t u) es) (sym e.1) tt)
near_there t es s u (Some p) h e = subst (λ s. EachThere (entries_of t s) es) (rest_more deref_pair s u (Some p) p refl e) h

module _ {A B : Type 0} (f : A → Tree) (g : B → Tree) where
  abbrev pub SameFrom : ℕ → List A → List B → Type 0
  SameFrom i xs ys = SameItems (items_from (map f (drop i xs))) (items_from (map g (drop i ys)))

  pub lens_same : (xs : List A) (ys : List B) → SameFrom 0 xs ys → length xs ≡ length ys
  lens_same xs ys h = length-items f xs ∙ same_items_len _ _ h ∙ sym (length-items g ys)

  module _ (i : ℕ) (xs : List A) (ys : List B) (x : A) (y : B) (hx : i < length xs) (hy : i < length ys) (ex : x ≡ get_or xs i x) (ey : y ≡ get_or ys i y) where
    abbrev Both : List A → List B → Type 0
    Both as' bs = SameItems (items_from (map f as')) (items_from (map g bs))

    fronts : {C : Type 0} (zs : List C) (z : C) → i < length zs → z ≡ get_or zs i z → drop i zs ≡ z ∷ drop (i + 1) zs
    fronts zs z h e = let next : suc i ≡ i + 1 = omega arith in drop-cons zs i z h ∙ ap (λ a. a ∷ drop (suc i) zs) (sym e) ∙ ap (λ n. z ∷ drop n zs) next

    -- the items from a place on, taken apart
    pub taken : SameFrom i xs ys → Same (f x) (g y) × SameFrom (i + 1) xs ys
    taken h = subst (λ bs. Both (x ∷ drop (i + 1) xs) bs) (fronts ys y hy ey) (subst (λ as'. Both as' (drop i ys)) (fronts xs x hx ex) h)

    pub joined : Same (f x) (g y) × SameFrom (i + 1) xs ys → SameFrom i xs ys
    joined h = subst (λ as'. Both as' (drop i ys)) (sym (fronts xs x hx ex)) (subst (λ bs. Both (x ∷ drop (i + 1) xs) bs) (sym (fronts ys y hy ey)) h)

  pub at_end : (i : ℕ) (xs : List A) (ys : List B) → length xs ≤ i → length xs ≡ length ys → SameFrom i xs ys
  at_end i xs ys h e = rw (drop_all i xs h, drop_all i ys (omega (arith, h, e))) refl

module _ {K L V W : Type 0} (f : V → Tree) (g : W → Tree) (t : K → List ℕ) (fs : List (Entry L W)) (s u : List (K × V)) (k : K) (v : V) (steps : s ≡ (k, v) ∷ u) where
  abbrev others : Members
  others = entry_members g fs

  -- the next member, and those behind it
  pub next_found : EachFound (entry_members f (entries_of t s)) others → MatchOption (find_member (t k) others) ⊥ (λ u. Same (f v) u) × EachFound (entry_members f (entries_of t u)) others
  next_found h = subst (λ s. EachFound (entry_members f (entries_of t s)) others) steps h

  member_found : (x : List ℕ) (w : W) → x ≡ t k → Some w ≡ lookup x fs → find_member (t k) others ≡ Some (g w)
  member_found x w e l = sym (lookup-entry_members g (t k) fs) ∙ ap (option_map g) (ap (λ x. lookup x fs) (sym e) ∙ sym l)

  member_absent : (x : List ℕ) → x ≡ t k → None ≡ lookup x fs → find_member (t k) others ≡ None
  member_absent x e l = sym (lookup-entry_members g (t k) fs) ∙ ap (option_map g) (ap (λ x. lookup x fs) (sym e) ∙ sym l)

  pub next_same : (x : List ℕ) (w : W) → x ≡ t k → Some w ≡ lookup x fs → EachFound (entry_members f (entries_of t s)) others → Same (f v) (g w)
  next_same x w e l h = MatchOption-at_some ⊥ (λ u. Same (f v) u) (g w) (member_found x w e l) (next_found h).0

  pub next_there : (x : List ℕ) → x ≡ t k → None ≡ lookup x fs → EachFound (entry_members f (entries_of t s)) others → ⊥
  next_there x e l h = MatchOption-at_none ⊥ (λ u. Same (f v) u) (member_absent x e l) (next_found h).0

  pub found_on : (x : List ℕ) (w : W) → x ≡ t k → Some w ≡ lookup x fs → Same (f v) (g w) → EachFound (entry_members f (entries_of t u)) others → EachFound (entry_members f (entries_of t s)) others
  found_on x w e l a h = subst (λ s. EachFound (entry_members f (entries_of t s)) others) (sym steps) (subst (λ o. MatchOption o ⊥ (λ u. Same (f v) u)) (sym (member_found x w e l)) a, h)

-- an answer that decides sameness is that of the test
pub answer_is : (b : Bool) (t u : Tree) → (IsTrue b → Same t u) × (Same t u → IsTrue b) → b ≡ tree_eq t u
answer_is b t u h = both_ways b (tree_eq t u) (λ e. (tree_eq-decides t u).1 (h.0 e)) (λ e. h.1 ((tree_eq-decides t u).0 e))
