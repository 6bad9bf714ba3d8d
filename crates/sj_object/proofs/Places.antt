-- Where a text stands among entries.
use Rattle.std.proofs.Common.{◌≡◌, ℕ, suc, ◌+◌, ◌<◌, Bool, true, false, List, [], ◌∷◌, length, Option, Some, None, is_some, IfSome, option_map, refl, sym, ap, ◌∙◌, arith, subst, bytes_eq}
use Rattle.std.specs.List.{position_from}
use Rattle.std.specs.Bool.{if◌then◌else◌}
use Rattle.sj_object.specs.Entries.{Entry, entries_of}
use Rattle.sj_object.specs.HashMap.{Contents, same_contents}
use Rattle.sj_object.specs.Edits.{lookup, position, set_value, nth_value, set_value_at, with_value, with_value_at}

further : (o : ℕ) (x : Option ℕ) → option_map (λ j. o + 1 + j) x ≡ option_map (λ j. o + j) (option_map suc x)
further o None = refl
further o (Some j) = let e : o + 1 + j ≡ o + suc j = omega arith in ap (λ m. Some m) e

from_0 : (x : Option ℕ) → option_map (λ j. 0 + j) x ≡ x
from_0 None = refl
from_0 (Some j) = let e : 0 + j ≡ j = omega arith in ap (λ m. Some m) e

module _ {K V : Type 0} (t : K → List ℕ) (k : List ℕ) where
  position_from-entries_of : (o : ℕ) (ps : List (K × V)) → position_from (λ (p : K × V). bytes_eq k (t p.0)) o ps ≡ option_map (λ j. o + j) (position k (entries_of t ps))
  position_from-entries_of o [] = refl
  position_from-entries_of o (p ∷ ps) = by_test (bytes_eq k (t p.0)) (position_from-entries_of (o + 1) ps) where
    by_test : (b : Bool) → position_from (λ (p : K × V). bytes_eq k (t p.0)) (o + 1) ps ≡ option_map (λ j. o + 1 + j) (position k (entries_of t ps))
        → (if b then Some o else position_from (λ (p : K × V). bytes_eq k (t p.0)) (o + 1) ps) ≡ option_map (λ j. o + j) (if b then Some 0 else option_map suc (position k (entries_of t ps)))
    by_test true h = let e : o ≡ o + 0 = omega arith in ap (λ m. Some m) e
    by_test false h = h ∙ further o (position k (entries_of t ps))

  -- a search among pairs finds the place among entries
  pub position-pairs : (ps : List (K × V)) → position_from (λ (p : K × V). bytes_eq k (t p.0)) 0 ps ≡ position k (entries_of t ps)
  position-pairs ps = position_from-entries_of 0 ps ∙ from_0 (position k (entries_of t ps))

module _ {K V : Type 0} (k : List ℕ) where
  -- the first entry with the text stands at i
  pub record IsPlace (es : List (Entry K V)) (i : ℕ) : Type 0 where
    pub within : i < length es
    pub value : nth_value i es ≡ lookup k es
    pub set : (w : V) → set_value_at i w es ≡ set_value k w es

  here : (e : Entry K V) (es : List (Entry K V)) → bytes_eq k e.0.1 ≡ true → IsPlace (e ∷ es) 0
  here e es q = record {
    within = omega arith;
    value = sym (λ i. if q i then Some e.1 else lookup k es);
    set = λ w. sym (λ i. if q i then (e.0, w) ∷ es else e ∷ set_value k w es);
  }

  later : (e : Entry K V) (es : List (Entry K V)) (i : ℕ) → bytes_eq k e.0.1 ≡ false → IsPlace es i → IsPlace (e ∷ es) (suc i)
  later e es i q h = let n : i < length es = h.within in record {
    within = omega (arith, n);
    value = h.value ∙ sym (λ j. if q j then Some e.1 else lookup k es);
    set = λ w. ap (λ l. e ∷ l) (h.set w) ∙ sym (λ j. if q j then (e.0, w) ∷ es else e ∷ set_value k w es);
  }

  pub place_found : (es : List (Entry K V)) (i : ℕ) → position k es ≡ Some i → IsPlace es i
  place_found [] i e = cc
  place_found (f ∷ es) i e = by_test (bytes_eq k f.0.1) refl e (place_found es) where
    by_place : (o : Option ℕ) → position k es ≡ o → bytes_eq k f.0.1 ≡ false → option_map suc o ≡ Some i → ((j : ℕ) → position k es ≡ Some j → IsPlace es j) → IsPlace (f ∷ es) i
    by_place None p q h more = cc
    by_place (Some j) p q h more = let s : suc j ≡ i = cc in subst (IsPlace (f ∷ es)) s (later f es j q (more j p))

    by_test : (b : Bool) → bytes_eq k f.0.1 ≡ b → (if b then Some 0 else option_map suc (position k es)) ≡ Some i → ((j : ℕ) → position k es ≡ Some j → IsPlace es j) → IsPlace (f ∷ es) i
    by_test true q h more = let s : 0 ≡ i = cc in subst (IsPlace (f ∷ es)) s (here f es q)
    by_test false q h more = by_place (position k es) refl q h more

  pub place_none : (es : List (Entry K V)) → position k es ≡ None → lookup k es ≡ None
  place_none [] e = refl
  place_none (f ∷ es) e = by_test (bytes_eq k f.0.1) refl e (place_none es) where
    by_place : (o : Option ℕ) → position k es ≡ o → bytes_eq k f.0.1 ≡ false → option_map suc o ≡ None → (position k es ≡ None → lookup k es ≡ None) → lookup k (f ∷ es) ≡ None
    by_place (Some j) p q h more = cc
    by_place None p q h more = (λ i. if q i then Some f.1 else lookup k es) ∙ more p

    by_test : (b : Bool) → bytes_eq k f.0.1 ≡ b → (if b then Some 0 else option_map suc (position k es)) ≡ None → (position k es ≡ None → lookup k es ≡ None) → lookup k (f ∷ es) ≡ None
    by_test true q h more = cc
    by_test false q h more = by_place (position k es) refl q h more

  pub is_some-position : (es : List (Entry K V)) → is_some (position k es) ≡ is_some (lookup k es)
  is_some-position [] = refl
  is_some-position (e ∷ es) = by_test (bytes_eq k e.0.1) (is_some-position es) where
    behind : (o : Option ℕ) → is_some (option_map suc o) ≡ is_some o
    behind None = refl
    behind (Some j) = refl

    by_test : (b : Bool) → is_some (position k es) ≡ is_some (lookup k es) → is_some (if b then Some 0 else option_map suc (position k es)) ≡ is_some (if b then Some e.1 else lookup k es)
    by_test true h = refl
    by_test false h = behind (position k es) ∙ h

  pub placed_within : (es : List (Entry K V)) (o : Option ℕ) → o ≡ position k es → IfSome o (λ i. i < length es)
  placed_within es None e = tt
  placed_within es (Some i) e = (place_found es i (sym e)).within

  -- a value set at the text's place is set at the text
  pub with_value-place : {S : Type 0} (m : Contents K V S) (i : ℕ) (w : V) → position k m.entries ≡ Some i → with_value_at m i w ≡ with_value m k w
  with_value-place m i w e = same_contents _ _ (λ j. ((place_found m.entries i e).set w j, (m.hasher, m.buckets)))
