-- Sameness is an equivalence of trees, also of trees whose objects repeat keys.
use Rattle.std.proofs.Common.{◌≡◌, ℕ, Bool, true, false, List, Option, Some, None, refl, sym, ◌∙◌, subst, bytes_eq}
use Rattle.std.specs.Prelude.{MatchBool, MatchOption, if◌then◌else◌}
use Rattle.sj_text_core.specs.Tree.{Tree, null, boolean, int, text, list, obj, Items, no_items, item, Members, no_members, member}
use Rattle.sj_text_core.specs.Find.{find_member}
use Rattle.sj_text_core.specs.Same.{Same, SameItems, SameAt}
use Rattle.sj_text_core.specs.inner.Agree.{SameFound}

at_by : (b : Bool) (t : Tree) (P : Type 0) (r f : Option Tree) → (P → SameFound r f) → MatchBool b (MatchOption f ⊥ (λ u. Same t u)) P → SameFound (if b then Some t else r) f
at_by true t P r f g h = h
at_by false t P r f g h = g h

-- what the members have at the text is what is found there
pub found_from_at : (k : List ℕ) (ms : Members) (f : Option Tree) → SameAt k ms f → SameFound (find_member k ms) f
found_from_at k no_members f h = h
found_from_at k (member l t ms) f h = at_by (bytes_eq k l) t (SameAt k ms f) (find_member k ms) f (found_from_at k ms f) h

found_by : (b : Bool) (t : Tree) (P : Type 0) (r f : Option Tree) → (SameFound r f → P) → SameFound (if b then Some t else r) f → MatchBool b (MatchOption f ⊥ (λ u. Same t u)) P
found_by true t P r f g h = h
found_by false t P r f g h = g h

pub at_from_found : (k : List ℕ) (ms : Members) (f : Option Tree) → SameFound (find_member k ms) f → SameAt k ms f
at_from_found k no_members f h = h
at_from_found k (member l t ms) f h = found_by (bytes_eq k l) t (SameAt k ms f) (find_member k ms) f (at_from_found k ms f) h

own_by : (b : Bool) (t : Tree) (P : Option Tree → Type 0) (r : Option Tree) → Same t t → P r → MatchBool b (MatchOption (if b then Some t else r) ⊥ (λ u. Same t u)) (P (if b then Some t else r))
own_by true t P r s h = s
own_by false t P r s h = h

mutual
  pub same-refl : (t : Tree) → Same t t
  same-refl null = refl
  same-refl (boolean b) = refl
  same-refl (int n c) = refl
  same-refl (text s) = refl
  same-refl (list is) = same_items-refl is
  same-refl (obj ms) = λ k. same_at-refl k ms

  same_items-refl : (is : Items) → SameItems is is
  same_items-refl no_items = refl
  same_items-refl (item t is) = (same-refl t, same_items-refl is)

  same_at-refl : (k : List ℕ) (ms : Members) → SameAt k ms (find_member k ms)
  same_at-refl k no_members = refl
  same_at-refl k (member l t ms) = own_by (bytes_eq k l) t (λ f. SameAt k ms f) (find_member k ms) (same-refl t) (same_at-refl k ms)

back_found : (t : Tree) (f : Option Tree) → ((u : Tree) → Same t u → Same u t) → MatchOption f ⊥ (λ u. Same t u) → SameFound f (Some t)
back_found t None g h = absurd h
back_found t (Some u) g h = g u h

back_by : (b : Bool) (t : Tree) (P : Type 0) (r f : Option Tree) → ((u : Tree) → Same t u → Same u t) → (P → SameFound f r)
    → MatchBool b (MatchOption f ⊥ (λ u. Same t u)) P → SameFound f (if b then Some t else r)
back_by true t P r f s g h = back_found t f s h
back_by false t P r f s g h = g h

none_back : (f : Option Tree) → f ≡ None → SameFound f None
none_back None e = refl
none_back (Some u) e = cc

mutual
  pub same-sym : (t u : Tree) → Same t u → Same u t
  same-sym null u h = subst (λ v. Same v null) (sym h) refl
  same-sym (boolean b) u h = subst (λ v. Same v (boolean b)) (sym h) refl
  same-sym (int n c) (int m d) h = sym h
  same-sym (text s) u h = subst (λ v. Same v (text s)) (sym h) refl
  same-sym (list is) (list js) h = same_items-sym is js h
  same-sym (obj ms) (obj ns) h = λ k. at_from_found k ns (find_member k ms) (same_at-sym k ms (find_member k ns) (h k))
  same-sym (int n c) null h = absurd h
  same-sym (int n c) (boolean b) h = absurd h
  same-sym (int n c) (text s) h = absurd h
  same-sym (int n c) (list is) h = absurd h
  same-sym (int n c) (obj ms) h = absurd h
  same-sym (list is) null h = absurd h
  same-sym (list is) (boolean b) h = absurd h
  same-sym (list is) (int n c) h = absurd h
  same-sym (list is) (text s) h = absurd h
  same-sym (list is) (obj ms) h = absurd h
  same-sym (obj ms) null h = absurd h
  same-sym (obj ms) (boolean b) h = absurd h
  same-sym (obj ms) (int n c) h = absurd h
  same-sym (obj ms) (text s) h = absurd h
  same-sym (obj ms) (list is) h = absurd h

  same_items-sym : (is js : Items) → SameItems is js → SameItems js is
  same_items-sym no_items no_items h = refl
  same_items-sym no_items (item u js) h = cc
  same_items-sym (item t is) no_items h = absurd h
  same_items-sym (item t is) (item u js) h = (same-sym t u h.0, same_items-sym is js h.1)

  same_at-sym : (k : List ℕ) (ms : Members) (f : Option Tree) → SameAt k ms f → SameFound f (find_member k ms)
  same_at-sym k no_members f h = none_back f h
  same_at-sym k (member l t ms) f h = back_by (bytes_eq k l) t (SameAt k ms f) (find_member k ms) f (λ u s. same-sym t u s) (same_at-sym k ms f) h

-- what is the same as nothing is nothing
pub none_on : (f g : Option Tree) → f ≡ None → SameFound f g → g ≡ None
none_on None g e h = h
none_on (Some u) g e h = cc

on_found : (t : Tree) (f g : Option Tree) → ((u v : Tree) → Same t u → Same u v → Same t v) → MatchOption f ⊥ (λ u. Same t u) → SameFound f g → MatchOption g ⊥ (λ v. Same t v)
on_found t None g s h i = absurd h
on_found t (Some u) None s h i = absurd i
on_found t (Some u) (Some v) s h i = s u v h i

on_by : (b : Bool) (t : Tree) (P Q : Type 0) (f g : Option Tree) → ((u v : Tree) → Same t u → Same u v → Same t v) → (P → Q)
    → MatchBool b (MatchOption f ⊥ (λ u. Same t u)) P → SameFound f g → MatchBool b (MatchOption g ⊥ (λ v. Same t v)) Q
on_by true t P Q f g s n h i = on_found t f g s h i
on_by false t P Q f g s n h i = n h

mutual
  pub same-trans : (t u v : Tree) → Same t u → Same u v → Same t v
  same-trans null u v h i = subst (λ u. Same u v) h i
  same-trans (boolean b) u v h i = subst (λ u. Same u v) h i
  same-trans (int n c) (int m d) (int p e) h i = h ∙ i
  same-trans (text s) u v h i = subst (λ u. Same u v) h i
  same-trans (list is) (list js) (list ks) h i = same_items-trans is js ks h i
  same-trans (obj ms) (obj ns) (obj os) h i = λ k. same_at-trans k ms (find_member k ns) (find_member k os) (h k) (found_from_at k ns (find_member k os) (i k))
  same-trans (int n c) (int m d) null h i = absurd i
  same-trans (int n c) (int m d) (boolean b) h i = absurd i
  same-trans (int n c) (int m d) (text s) h i = absurd i
  same-trans (int n c) (int m d) (list is) h i = absurd i
  same-trans (int n c) (int m d) (obj ms) h i = absurd i
  same-trans (int n c) null v h i = absurd h
  same-trans (int n c) (boolean b) v h i = absurd h
  same-trans (int n c) (text s) v h i = absurd h
  same-trans (int n c) (list is) v h i = absurd h
  same-trans (int n c) (obj ms) v h i = absurd h
  same-trans (list is) (list js) null h i = absurd i
  same-trans (list is) (list js) (boolean b) h i = absurd i
  same-trans (list is) (list js) (int n c) h i = absurd i
  same-trans (list is) (list js) (text s) h i = absurd i
  same-trans (list is) (list js) (obj ms) h i = absurd i
  same-trans (list is) null v h i = absurd h
  same-trans (list is) (boolean b) v h i = absurd h
  same-trans (list is) (int n c) v h i = absurd h
  same-trans (list is) (text s) v h i = absurd h
  same-trans (list is) (obj ms) v h i = absurd h
  same-trans (obj ms) (obj ns) null h i = absurd i
  same-trans (obj ms) (obj ns) (boolean b) h i = absurd i
  same-trans (obj ms) (obj ns) (int n c) h i = absurd i
  same-trans (obj ms) (obj ns) (text s) h i = absurd i
  same-trans (obj ms) (obj ns) (list is) h i = absurd i
  same-trans (obj ms) null v h i = absurd h
  same-trans (obj ms) (boolean b) v h i = absurd h
  same-trans (obj ms) (int n c) v h i = absurd h
  same-trans (obj ms) (text s) v h i = absurd h
  same-trans (obj ms) (list is) v h i = absurd h

  same_items-trans : (is js ks : Items) → SameItems is js → SameItems js ks → SameItems is ks
  same_items-trans no_items js ks h i = subst (λ js. SameItems js ks) h i
  same_items-trans (item t is) no_items ks h i = absurd h
  same_items-trans (item t is) (item u js) no_items h i = absurd i
  same_items-trans (item t is) (item u js) (item v ks) h i = (same-trans t u v h.0 i.0, same_items-trans is js ks h.1 i.1)

  same_at-trans : (k : List ℕ) (ms : Members) (f g : Option Tree) → SameAt k ms f → SameFound f g → SameAt k ms g
  same_at-trans k no_members f g h i = none_on f g h i
  same_at-trans k (member l t ms) f g h i =
      on_by (bytes_eq k l) t (SameAt k ms f) (SameAt k ms g) f g (λ u v x y. same-trans t u v x y) (λ h. same_at-trans k ms f g h i) h i

-- what the members do not have is absent
pub none_found_at : (k : List ℕ) (ms : Members) (f : Option Tree) → SameAt k ms f → find_member k ms ≡ None → f ≡ None
none_found_at k ms f h e = none_on (find_member k ms) f e (found_from_at k ms f h)
