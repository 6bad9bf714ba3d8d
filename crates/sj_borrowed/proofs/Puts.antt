-- A value that is set at a key which is there, and a pair that goes last where it is absent.
use Rattle.std.proofs.Common.{◌≡◌, ℕ, suc, Bool, true, false, List, [], ◌∷◌, ◌++◌, length, Some, None, option_map, refl, sym, ap, ◌∙◌, bytes_eq}
use Rattle.std.proofs.lemmas.Slice.Eq.{bytes_eq-Decides}
use Rattle.std.specs.Bool.{if◌then◌else◌}
use Rattle.sj_object.specs.Entries.{Entry}
use Rattle.sj_object.specs.Edits.{lookup, position, set_value, nth_value, set_value_at, put_entry}
use Rattle.sj_object.proofs.Position.{set_value_at-last, value_at-last}

module _ {K V : Type 0} (q : K × List ℕ) (w v : V) where
  set_by : (b : Bool) (e : Entry K V) (es : List (Entry K V)) → (if b then Some e.1 else lookup q.1 es) ≡ Some v → (lookup q.1 es ≡ Some v → set_value q.1 w es ≡ put_entry q w es)
      → (if b then (e.0, w) ∷ es else e ∷ set_value q.1 w es) ≡ (if b then (e.0, w) ∷ es else e ∷ put_entry q w es)
  set_by true e es h more = refl
  set_by false e es h more = ap (λ l. e ∷ l) (more h)

  pub set_value_put : (es : List (Entry K V)) → lookup q.1 es ≡ Some v → set_value q.1 w es ≡ put_entry q w es
  set_value_put [] h = cc
  set_value_put (e ∷ es) h = set_by (bytes_eq q.1 e.0.1) e es h (set_value_put es)

module _ {K V : Type 0} (q : K × List ℕ) (w : V) where
  put_by : (b : Bool) (e : Entry K V) (es : List (Entry K V)) → (if b then Some e.1 else lookup q.1 es) ≡ None → (lookup q.1 es ≡ None → es ++ (q, w) ∷ [] ≡ put_entry q w es)
      → e ∷ es ++ (q, w) ∷ [] ≡ (if b then (e.0, w) ∷ es else e ∷ put_entry q w es)
  put_by true e es h more = cc
  put_by false e es h more = ap (λ l. e ∷ l) (more h)

  pub last_put : (es : List (Entry K V)) → lookup q.1 es ≡ None → es ++ (q, w) ∷ [] ≡ put_entry q w es
  last_put [] h = refl
  last_put (e ∷ es) h = put_by (bytes_eq q.1 e.0.1) e es h (last_put es)

module _ {K V : Type 0} (k : List ℕ) (c : K) (v : V) where
  is_itself : bytes_eq k k ≡ true
  is_itself = (bytes_eq-Decides k k).1 refl

  pub position-last : (es : List (Entry K V)) → lookup k es ≡ None → position k (es ++ ((c, k), v) ∷ []) ≡ Some (length es)
  position-last [] h = λ i. if is_itself i then Some 0 else None
  position-last (e ∷ es) h = by_test (bytes_eq k e.0.1) h (position-last es) where
    by_test : (b : Bool) → (if b then Some e.1 else lookup k es) ≡ None → (lookup k es ≡ None → position k (es ++ ((c, k), v) ∷ []) ≡ Some (length es))
        → (if b then Some 0 else option_map suc (position k (es ++ ((c, k), v) ∷ []))) ≡ Some (suc (length es))
    by_test true h more = cc
    by_test false h more = ap (option_map suc) (more h)

  pub lookup-put : (es : List (Entry K V)) → lookup k (put_entry (c, k) v es) ≡ Some v
  lookup-put [] = λ i. if is_itself i then Some v else None
  lookup-put (e ∷ es) = by_test (bytes_eq k e.0.1) refl (lookup-put es) where
    by_test : (b : Bool) → bytes_eq k e.0.1 ≡ b → lookup k (put_entry (c, k) v es) ≡ Some v → lookup k (if b then (e.0, v) ∷ es else e ∷ put_entry (c, k) v es) ≡ Some v
    by_test true q h = λ i. if q i then Some v else lookup k es
    by_test false q h = (λ i. if q i then Some e.1 else lookup k (put_entry (c, k) v es)) ∙ h

  -- a pair that was put last, and whose value was written then
  module _ (s : List ℕ) (x : V) (n : ℕ) (es fs : List (Entry K V)) (text : s ≡ k) (last : n ≡ length es) (added : fs ≡ es ++ ((c, s), x) ∷ []) (absent : lookup k es ≡ None) where
    at_end : set_value_at n v fs ≡ es ++ ((c, k), v) ∷ []
    at_end = (λ i. set_value_at (last i) v (added i)) ∙ set_value_at-last es (c, s) x v ∙ ap (λ l. es ++ ((c, l), v) ∷ []) text

    pub made_place : position k (set_value_at n v fs) ≡ Some n
    made_place = ap (position k) at_end ∙ position-last es absent ∙ ap (λ i. Some i) (sym last)

    pub made_put : set_value_at n v fs ≡ put_entry (c, k) v es
    made_put = at_end ∙ last_put (c, k) v es absent

    pub added_value : nth_value n fs ≡ Some x
    added_value = (λ i. nth_value (last i) (added i)) ∙ value_at-last es (c, s) x
