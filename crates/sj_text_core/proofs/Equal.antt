-- The test of sameness decides it, and so it is an equivalence.
use Rattle.std.proofs.Common.{◌≡◌, ℕ, Bool, true, false, ◌||◌, List, [], ◌∷◌, Option, Some, None, is_some, refl, sym, ap, ◌∙◌, subst, bytes_eq, true≢false}
use Rattle.std.specs.Prelude.{MatchBool, MatchOption, if◌then◌else◌}
use Rattle.std.specs.Bool.{Decides}
use Rattle.std.specs.Cmp.{IsEquivalence, booleans_Decides, signed_Decides}
use Rattle.std.proofs.lemmas.Bool.{and_parts, and_from, or_from, or_parts}
use Rattle.std.proofs.lemmas.Slice.Eq.{bytes_eq-Decides}
use Rattle.sj_text_core.specs.Tree.{Tree, null, boolean, int, text, list, obj, Items, no_items, item, Members, no_members, member}
use Rattle.sj_text_core.specs.Find.{find_member}
use Rattle.sj_text_core.specs.Keep.{is_seen}
use Rattle.sj_text_core.specs.Same.{Same, SameItems, SameAt}
use Rattle.sj_text_core.specs.Equal.{passes, has_all, tree_eq, items_eq, members_eq}
use Rattle.sj_text_core.proofs.Equality.{same-refl, same-sym, same-trans, none_found_at}
use Rattle.sj_text_core.proofs.Texts.{bytes_eq-self, absent_parts}

by_or : (a b : Bool) (P : Type 0) → (a || b) ≡ true → a ≡ false → (b ≡ true → P) → P
by_or true b P e f g = absurd (true≢false f)
by_or false b P e f g = g e

-- where no text of the second is missing
absent_by : (b : Bool) (t : Tree) (r : Option Tree) → (b ≡ true → ⊥) → r ≡ None → (if b then Some t else r) ≡ None
absent_by true t r n e = absurd (n refl)
absent_by false t r n e = e

there : (f : Option Tree) → is_some f ≡ true → f ≡ None → ⊥
there None e h = true≢false (sym e)
there (Some t) e h = cc

has-absent : (k : List ℕ) (ms ns : Members) → has_all ms ns ≡ true → find_member k ms ≡ None → find_member k ns ≡ None
has-absent k ms no_members e h = refl
has-absent k ms (member l t ns) e h =
    let p = and_parts (is_some (find_member l ms)) (has_all ms ns) e in
    absent_by (bytes_eq k l) t (find_member k ns) (λ f. there (find_member l ms) p.0 (ap (λ l. find_member l ms) (sym ((bytes_eq-Decides k l).0 f)) ∙ h)) (has-absent k ms ns p.1 h)

pub has_by : (f : Option Tree) → (f ≡ None → ⊥) → is_some f ≡ true
has_by None n = absurd (n refl)
has_by (Some t) n = refl

pub found_head : (l : List ℕ) (t : Tree) (ns : Members) → find_member l (member l t ns) ≡ Some t
found_head l t ns = λ i. if bytes_eq-self l i then Some t else find_member l ns

absent-has : (ms ns : Members) → ((k : List ℕ) → find_member k ms ≡ None → find_member k ns ≡ None) → has_all ms ns ≡ true
absent-has ms no_members h = refl
absent-has ms (member l t ns) h =
    and_from (is_some (find_member l ms)) (has_all ms ns) (has_by (find_member l ms) (λ e. some_none t (sym (found_head l t ns) ∙ h l e)))
    (absent-has ms ns (λ k e. (absent_parts (bytes_eq k l) t (find_member k ns) (h k e)).1)) where
      some_none : (t : Tree) → Some t ≡ None → ⊥
      some_none t e = cc

passes-some : (f : Option Tree) (test : Tree → Bool) (P : Tree → Type 0) → ((u : Tree) → test u ≡ true → P u) → passes f test ≡ true → MatchOption f ⊥ P
passes-some None test P h e = true≢false (sym e)
passes-some (Some u) test P h e = h u e

some-passes : (f : Option Tree) (test : Tree → Bool) (P : Tree → Type 0) → ((u : Tree) → P u → test u ≡ true) → MatchOption f ⊥ P → passes f test ≡ true
some-passes None test P h m = absurd m
some-passes (Some u) test P h m = h u m

at_by : (k l : List ℕ) (t : Tree) (Q : Type 0) (ns : Members) (seen : List (List ℕ)) (b : Bool) → bytes_eq k l ≡ b → is_seen k seen ≡ false
    → (is_seen l seen ≡ false → MatchOption (find_member l ns) ⊥ (λ u. Same t u)) → ((bytes_eq k l || is_seen k seen) ≡ false → b ≡ false → Q) → MatchBool b (MatchOption (find_member k ns) ⊥ (λ u. Same t u)) Q
at_by k l t Q ns seen true d s h g =
    let same : k ≡ l = (bytes_eq-Decides k l).0 d in
    subst (λ k. MatchOption (find_member k ns) ⊥ (λ u. Same t u)) (sym same) (h (ap (λ x. is_seen x seen) (sym same) ∙ s))
at_by k l t Q ns seen false d s h g = g (or_from (bytes_eq k l) (is_seen k seen) d s) refl

head_absent : (b : Bool) (t : Tree) (r : Option Tree) → b ≡ false → r ≡ None → (if b then Some t else r) ≡ None
head_absent true t r e f = absurd (true≢false e)
head_absent false t r e f = f

mutual
  eq-same : (t u : Tree) → tree_eq t u ≡ true → Same t u
  eq-same null null e = refl
  eq-same (boolean a) (boolean b) e = ap boolean (sym ((booleans_Decides a b).0 e))
  eq-same (int n c) (int m d) e = (signed_Decides n m).0 e
  eq-same (text s) (text r) e = ap text (sym ((bytes_eq-Decides s r).0 e))
  eq-same (list is) (list js) e = items_eq-same is js e
  eq-same (obj ms) (obj ns) e =
      let p = and_parts (members_eq [] ms ns) (has_all ms ns) e in
      λ k. members_eq-at [] k ms ns p.0 refl (has-absent k ms ns p.1)
  eq-same _ _ e = absurd (true≢false (sym e))

  items_eq-same : (is js : Items) → items_eq is js ≡ true → SameItems is js
  items_eq-same no_items no_items e = refl
  items_eq-same no_items (item u js) e = absurd (true≢false (sym e))
  items_eq-same (item t is) no_items e = absurd (true≢false (sym e))
  items_eq-same (item t is) (item u js) e = let p = and_parts (tree_eq t u) (items_eq is js) e in (eq-same t u p.0, items_eq-same is js p.1)

  members_eq-at : (seen : List (List ℕ)) (k : List ℕ) (ms ns : Members) → members_eq seen ms ns ≡ true → is_seen k seen ≡ false → (find_member k ms ≡ None → find_member k ns ≡ None) → SameAt k ms (find_member k ns)
  members_eq-at seen k no_members ns e s n = n refl
  members_eq-at seen k (member l t ms) ns e s n =
      let p = and_parts (is_seen l seen || passes (find_member l ns) (λ u. tree_eq t u)) (members_eq (l ∷ seen) ms ns) e in
      at_by k l t (SameAt k ms (find_member k ns)) ns seen (bytes_eq k l) refl s
      (λ f. by_or (is_seen l seen) (passes (find_member l ns) (λ u. tree_eq t u)) _ p.0 f (passes-some (find_member l ns) (λ u. tree_eq t u) (λ u. Same t u) (λ u g. eq-same t u g)))
      (λ f g. members_eq-at (l ∷ seen) k ms ns p.1 f (λ h. n (head_absent (bytes_eq k l) t (find_member k ms) g h)))

seen_or : (a b : Bool) → (a ≡ false → b ≡ true) → (a || b) ≡ true
seen_or true b f = refl
seen_or false b f = f refl

own : (l : List ℕ) (t : Tree) (ms ns : Members) → SameAt l (member l t ms) (find_member l ns) → MatchOption (find_member l ns) ⊥ (λ u. Same t u)
own l t ms ns h = subst (λ b. MatchBool b (MatchOption (find_member l ns) ⊥ (λ u. Same t u)) (SameAt l ms (find_member l ns))) ((bytes_eq-Decides l l).1 refl) h

later : (b : Bool) (P Q : Type 0) → b ≡ false → MatchBool b P Q → Q
later true P Q e h = absurd (true≢false e)
later false P Q e h = h

mutual
  same-eq : (t u : Tree) → Same t u → tree_eq t u ≡ true
  same-eq null u h = subst (λ u. tree_eq null u ≡ true) (sym h) refl
  same-eq (boolean a) u h = subst (λ u. tree_eq (boolean a) u ≡ true) (sym h) ((booleans_Decides a a).1 refl)
  same-eq (text s) u h = subst (λ u. tree_eq (text s) u ≡ true) (sym h) ((bytes_eq-Decides s s).1 refl)
  same-eq (int n c) (int m d) h = (signed_Decides n m).1 h
  same-eq (list is) (list js) h = same-items_eq is js h
  same-eq (obj ms) (obj ns) h =
      and_from (members_eq [] ms ns) (has_all ms ns) (at-members_eq [] ms ns (λ k s. h k)) (absent-has ms ns (λ k e. none_found_at k ms (find_member k ns) (h k) e))
  same-eq (int n c) null h = absurd h
  same-eq (int n c) (boolean b) h = absurd h
  same-eq (int n c) (text s) h = absurd h
  same-eq (int n c) (list is) h = absurd h
  same-eq (int n c) (obj ms) h = absurd h
  same-eq (list is) null h = absurd h
  same-eq (list is) (boolean b) h = absurd h
  same-eq (list is) (int n c) h = absurd h
  same-eq (list is) (text s) h = absurd h
  same-eq (list is) (obj ms) h = absurd h
  same-eq (obj ms) null h = absurd h
  same-eq (obj ms) (boolean b) h = absurd h
  same-eq (obj ms) (int n c) h = absurd h
  same-eq (obj ms) (text s) h = absurd h
  same-eq (obj ms) (list is) h = absurd h

  same-items_eq : (is js : Items) → SameItems is js → items_eq is js ≡ true
  same-items_eq no_items js h = subst (λ js. items_eq no_items js ≡ true) (sym h) refl
  same-items_eq (item t is) no_items h = absurd h
  same-items_eq (item t is) (item u js) h = and_from (tree_eq t u) (items_eq is js) (same-eq t u h.0) (same-items_eq is js h.1)

  at-members_eq : (seen : List (List ℕ)) (ms ns : Members) → ((k : List ℕ) → is_seen k seen ≡ false → SameAt k ms (find_member k ns)) → members_eq seen ms ns ≡ true
  at-members_eq seen no_members ns h = refl
  at-members_eq seen (member l t ms) ns h =
      and_from (is_seen l seen || passes (find_member l ns) (λ u. tree_eq t u)) (members_eq (l ∷ seen) ms ns)
      (seen_or (is_seen l seen) (passes (find_member l ns) (λ u. tree_eq t u)) (λ s. some-passes (find_member l ns) (λ u. tree_eq t u) (λ u. Same t u) (λ u g. same-eq t u g) (own l t ms ns (h l s))))
      (at-members_eq (l ∷ seen) ms ns (λ k s. let p = or_parts (bytes_eq k l) (is_seen k seen) s in later (bytes_eq k l) _ (SameAt k ms (find_member k ns)) p.0 (h k p.1)))

pub tree_eq-decides : (t u : Tree) → Decides (tree_eq t u) (Same t u)
tree_eq-decides t u = (λ e. eq-same t u e, λ h. same-eq t u h)

pub both_ways : (a b : Bool) → (a ≡ true → b ≡ true) → (b ≡ true → a ≡ true) → a ≡ b
both_ways true b f g = sym (f refl)
both_ways false true f g = g refl
both_ways false false f g = refl

pub tree_eq-equivalence : IsEquivalence tree_eq
tree_eq-equivalence = record {
  refl = λ t. same-eq t t (same-refl t);
  symm = λ t u. both_ways (tree_eq t u) (tree_eq u t) (λ e. same-eq u t (same-sym t u (eq-same t u e))) (λ e. same-eq t u (same-sym u t (eq-same u t e)));
  congr = λ t u v e. both_ways (tree_eq t v) (tree_eq u v)
      (λ f. same-eq u v (same-trans u t v (same-sym t u (eq-same t u e)) (eq-same t v f)))
      (λ f. same-eq t v (same-trans t u v (eq-same t u e) (eq-same u v f)));
}
