-- Trees that are the same have one canonical print, and so the other way round.
use Rattle.std.proofs.Common.{◌≡◌, ℕ, Bool, true, false, List, Option, Some, None, bytes_eq, refl, sym, ap, ap₂, ◌∙◌, subst, option_map}
use Rattle.std.specs.Prelude.{MatchBool, MatchOption, if◌then◌else◌}
use Rattle.sj_text_core.specs.Find.{find_member}
use Rattle.sj_text_core.specs.Keep.{IsSingle, AreSingle, HasSingle}
use Rattle.sj_text_core.specs.Print.{compact, printed_carrier, recarry, recarry_items, recarry_members}
use Rattle.sj_text_core.specs.Same.{Same, SameItems, SameAt}
use Rattle.sj_text_core.specs.Tree.{Tree, null, boolean, int, text, list, obj, Items, no_items, item, Members, no_members, member, IsProper, AreProper, HasProper}
use Rattle.sj_text_core.proofs.Equality.{same-sym, same-trans}
use Rattle.sj_text_core.proofs.Finds.{same-recarry, find_member-recarry}
use Rattle.sj_text_core.proofs.Recarried.{compact-same}
use Rattle.sj_text_core.proofs.parse.One.{compact_one}
use Rattle.std.proofs.Common.{IsUtf8}
use Rattle.sj_canonical.specs.Canonical.{is_before, sort_in, canonical, canonical_items, canonical_members}
use Rattle.sj_canonical.proofs.Strict.{IsStrict, HasTexts, texts-sort_in, find-sort_in, strict-sort_in, strict-recarry, one_strict}

mapped_by : (b : Bool) (t : Tree) (r : Option Tree) → (if b then Some (canonical t) else option_map canonical r) ≡ option_map canonical (if b then Some t else r)
mapped_by true t r = refl
mapped_by false t r = refl

-- each text finds what it found, in canonical form
pub find-canonical : (k : List ℕ) (ms : Members) → find_member k (canonical_members ms) ≡ option_map canonical (find_member k ms)
find-canonical k no_members = refl
find-canonical k (member l t ms) =
    find-sort_in k l (canonical t) (canonical_members ms) ∙ ap (λ r. if bytes_eq k l then Some (canonical t) else r) (find-canonical k ms) ∙ mapped_by (bytes_eq k l) t (find_member k ms)

under_by : (b : Bool) (t : Tree) (P : Option Tree → Type 0) (r : Option Tree) → Same t (canonical t) → P (option_map canonical r)
    → MatchBool b (MatchOption (option_map canonical (if b then Some t else r)) ⊥ (λ u. Same t u)) (P (option_map canonical (if b then Some t else r)))
under_by true t P r s h = s
under_by false t P r s h = h

mutual
  -- a tree is the same as its canonical form
  pub same-canonical : (t : Tree) → Same t (canonical t)
  same-canonical null = refl
  same-canonical (boolean b) = refl
  same-canonical (int n c) = refl
  same-canonical (text s) = refl
  same-canonical (list is) = same_items-canonical is
  same-canonical (obj ms) = λ k. subst (SameAt k ms) (sym (find-canonical k ms)) (same_at-canonical k ms)

  same_items-canonical : (is : Items) → SameItems is (canonical_items is)
  same_items-canonical no_items = refl
  same_items-canonical (item t is) = (same-canonical t, same_items-canonical is)

  same_at-canonical : (k : List ℕ) (ms : Members) → SameAt k ms (option_map canonical (find_member k ms))
  same_at-canonical k no_members = refl
  same_at-canonical k (member l t ms) = under_by (bytes_eq k l) t (SameAt k ms) (find_member k ms) (same-canonical t) (same_at-canonical k ms)

proper-sort_in : (k : List ℕ) (t : Tree) (ms : Members) → IsUtf8 k → IsProper t → HasProper ms → HasProper (sort_in k t ms)
proper-sort_in k t no_members u p h = (u, p, tt {0})
proper-sort_in k t (member l v ms) u p h = by_test (is_before l k) (proper-sort_in k t ms u p h.2)
  where
    by_test : (b : Bool) → HasProper (sort_in k t ms) → HasProper (if b then member l v (sort_in k t ms) else member k t (member l v ms))
    by_test true r = (h.0, h.1, r)
    by_test false r = (u, p, h)

mutual
  pub proper-canonical : (t : Tree) → IsProper t → IsProper (canonical t)
  proper-canonical null p = tt {0}
  proper-canonical (boolean b) p = tt {0}
  proper-canonical (int n c) p = p
  proper-canonical (text s) p = p
  proper-canonical (list is) p = proper_items-canonical is p
  proper-canonical (obj ms) p = proper_members-canonical ms p

  proper_items-canonical : (is : Items) → AreProper is → AreProper (canonical_items is)
  proper_items-canonical no_items p = tt {0}
  proper_items-canonical (item t is) p = (proper-canonical t p.0, proper_items-canonical is p.1)

  pub proper_members-canonical : (ms : Members) → HasProper ms → HasProper (canonical_members ms)
  proper_members-canonical no_members p = tt {0}
  proper_members-canonical (member k t ms) p = proper-sort_in k (canonical t) (canonical_members ms) p.0 (proper-canonical t p.1) (proper_members-canonical ms p.2)

pub texts-proper : (ms : Members) → HasProper ms → HasTexts ms
texts-proper no_members p = tt {0}
texts-proper (member k t ms) p = (p.0, texts-proper ms p.2)

texts-canonical : (ms : Members) → HasTexts ms → HasTexts (canonical_members ms)
texts-canonical no_members h = tt {0}
texts-canonical (member k t ms) h = texts-sort_in k (canonical t) (canonical_members ms) h.0 (texts-canonical ms h.1)

-- without repeats the members are in strict order
pub strict-canonical : (ms : Members) → HasTexts ms → HasSingle ms → IsStrict (canonical_members ms)
strict-canonical no_members p s = tt {0}
strict-canonical (member k t ms) p s =
    strict-sort_in k (canonical t) (canonical_members ms) p.0 (texts-canonical ms p.1) (strict-canonical ms p.1 s.2) (find-canonical k ms ∙ ap (option_map canonical) s.0)

-- the form that decides the print
abbrev form : Tree → Tree
form t = recarry (canonical t)

abbrev IsFine : Tree → Type 0
IsFine t = IsProper t × IsSingle t

fine_by : (b : Bool) (t : Tree) (r : Option Tree) → IsFine t → MatchOption r (Unit {0}) IsFine → MatchOption (if b then Some t else r) (Unit {0}) IsFine
fine_by true t r p h = p
fine_by false t r p h = h

fine-found : (k : List ℕ) (ms : Members) → HasProper ms → HasSingle ms → MatchOption (find_member k ms) (Unit {0}) IsFine
fine-found k no_members p s = tt {0}
fine-found k (member l t ms) p s = fine_by (bytes_eq k l) t (find_member k ms) (p.1, s.1) (fine-found k ms p.2 s.2)

form-found : (k : List ℕ) (ms : Members) → find_member k (recarry_members (canonical_members ms)) ≡ option_map recarry (option_map canonical (find_member k ms))
form-found k ms = find_member-recarry k (canonical_members ms) ∙ ap (option_map recarry) (find-canonical k ms)

some_alike : (t : Tree) (f : Option Tree) → ((u : Tree) → Same t u → IsFine u → form t ≡ form u) → MatchOption f (Unit {0}) IsFine → MatchOption f ⊥ (λ u. Same t u)
    → Some (form t) ≡ option_map recarry (option_map canonical f)
some_alike t None g p h = absurd h
some_alike t (Some u) g p h = ap Some (g u h p)

alike_by : (b : Bool) (t : Tree) (P : Type 0) (r f : Option Tree) → ((u : Tree) → Same t u → IsFine u → form t ≡ form u) → MatchOption f (Unit {0}) IsFine
    → (P → option_map recarry (option_map canonical r) ≡ option_map recarry (option_map canonical f))
    → MatchBool b (MatchOption f ⊥ (λ u. Same t u)) P → option_map recarry (option_map canonical (if b then Some t else r)) ≡ option_map recarry (option_map canonical f)
alike_by true t P r f g p e h = some_alike t f g p h
alike_by false t P r f g p e h = e h

mutual
  -- proper trees without repeats that are the same have one form
  pub alike : (t u : Tree) → IsFine t → IsFine u → Same t u → form t ≡ form u
  alike null u p q h = ap form (sym h)
  alike (boolean b) u p q h = ap form (sym h)
  alike (text s) u p q h = ap form (sym h)
  alike (int n c) (int m d) p q h = ap (λ n. int n (printed_carrier n)) h
  alike (list is) (list js) p q h = ap list (alike_items is js p.0 p.1 q.0 q.1 h)
  alike (obj ms) (obj ns) p q h =
      ap obj (one_strict (recarry_members (canonical_members ms)) (recarry_members (canonical_members ns))
      (strict-recarry (canonical_members ms) (strict-canonical ms (texts-proper ms p.0) p.1)) (strict-recarry (canonical_members ns) (strict-canonical ns (texts-proper ns q.0) q.1))
      (λ k. form-found k ms ∙ alike_at k ms (find_member k ns) p.0 p.1 (fine-found k ns q.0 q.1) (h k) ∙ sym (form-found k ns)))
  alike (int n c) null p q h = absurd h
  alike (int n c) (boolean b) p q h = absurd h
  alike (int n c) (text s) p q h = absurd h
  alike (int n c) (list is) p q h = absurd h
  alike (int n c) (obj ms) p q h = absurd h
  alike (list is) null p q h = absurd h
  alike (list is) (boolean b) p q h = absurd h
  alike (list is) (int n c) p q h = absurd h
  alike (list is) (text s) p q h = absurd h
  alike (list is) (obj ms) p q h = absurd h
  alike (obj ms) null p q h = absurd h
  alike (obj ms) (boolean b) p q h = absurd h
  alike (obj ms) (int n c) p q h = absurd h
  alike (obj ms) (text s) p q h = absurd h
  alike (obj ms) (list is) p q h = absurd h

  alike_items : (is js : Items) → AreProper is → AreSingle is → AreProper js → AreSingle js → SameItems is js → recarry_items (canonical_items is) ≡ recarry_items (canonical_items js)
  alike_items no_items js p s q r h = ap (λ js. recarry_items (canonical_items js)) (sym h)
  alike_items (item t is) no_items p s q r h = absurd h
  alike_items (item t is) (item u js) p s q r h = ap₂ item (alike t u (p.0, s.0) (q.0, r.0) h.0) (alike_items is js p.1 s.1 q.1 r.1 h.1)

  alike_at : (k : List ℕ) (ms : Members) (f : Option Tree) → HasProper ms → HasSingle ms → MatchOption f (Unit {0}) IsFine → SameAt k ms f
      → option_map recarry (option_map canonical (find_member k ms)) ≡ option_map recarry (option_map canonical f)
  alike_at k no_members f p s q h = ap (λ f. option_map recarry (option_map canonical f)) (sym h)
  alike_at k (member l t ms) f p s q h =
      alike_by (bytes_eq k l) t (SameAt k ms f) (find_member k ms) f (λ u g r. alike t u (p.1, s.1) r g) q (λ h. alike_at k ms f p.2 s.2 q h) h

same-form : (t : Tree) → Same t (form t)
same-form t = same-trans t (canonical t) (form t) (same-canonical t) (same-recarry (canonical t))

pub same_print : (t u : Tree) → IsProper t → IsProper u → IsSingle t → IsSingle u → Same t u → compact (canonical t) ≡ compact (canonical u)
same_print t u p q s r h = compact-same (canonical t) (canonical u) (alike t u (p, s) (q, r) h)

pub print_same : (t u : Tree) → IsProper t → IsProper u → compact (canonical t) ≡ compact (canonical u) → Same t u
print_same t u p q e =
    same-trans t (form u) u (subst (Same t) (compact_one (canonical t) (canonical u) (proper-canonical t p) (proper-canonical u q) e) (same-form t)) (same-sym u (form u) (same-form u))
