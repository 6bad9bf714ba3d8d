-- What stands where tokens lead, once what was missing on the way is made.
use Rattle.std.proofs.Common.{◌≡◌, ◌<◌, ◌≤◌, ℕ, suc, Bool, true, false, List, [], ◌∷◌, ◌++◌, map, take, drop, length, get_or, Option, Some, None, option_map, option_and_then, String, Global, string_bytes, refl, sym, ap, ◌∙◌, subst, true≢false}
use Rattle.std.specs.Option.{IsSome, is_some}
use Rattle.std.proofs.Math.Seq.{drop-cons, take-suc}
use Rattle.std.proofs.lemmas.List.{map-append}
use Rattle.std.proofs.lemmas.Option.{same_Some}
use Rattle.sj_text_core.specs.Tree.{Tree, null, boolean, int, text, list, obj, Members, no_members}
use Rattle.sj_text_core.specs.Edits.{put}
use Rattle.sj_text_core.specs.Reads.{as_members}
use Rattle.sj_text_core.specs.Paths.{by_token, set_found}
use Rattle.sj_text_core.specs.declared.repeats.Repeats.TheVariants.{First}
use Rattle.sj_text_core.proofs.Writes.{step_there, set_found-twice, find-put_same, put-twice}
use Rattle.sj_text_core.specs.declared.error.AccessError.{AccessError}
use Rattle.sj_text_core.specs.declared.error.AccessError.TheVariants.{NotAnObject, OutOfMemory}
use Rattle.sj_document.specs.Document.{with_member, edit_fault}
use Rattle.sj_pointer.specs.Pointed.{token_into, pointed, set_pointed}
use Rattle.sj_path.proofs.Ways.{set_further}
use Rattle.sj_path.specs.Made.{nested, member_added, set_within, set_made}
use Rattle.sj_path.specs.inner.Made.{IsEndOf}

-- where tokens find something, it is set
found_by : (o : Option Tree) (k : List ℕ) (ks : List (List ℕ)) (u x t : Tree) → token_into First k t ≡ o → option_and_then (pointed ks) o ≡ Some x → ((v : Tree) → pointed ks v ≡ Some x → set_made ks u v ≡ Some (set_pointed ks u v))
    → set_made (k ∷ ks) u t ≡ Some (set_pointed (k ∷ ks) u t)
found_by None k ks u x t e f ih = cc
found_by (Some v) k ks u x t e f ih =
    ap (λ o. set_within o k (set_made ks u) (nested ks u) t) e ∙ ap (option_map (λ w. set_found (by_token k) w t)) (ih v f) ∙ ap Some (sym (set_further k ks t u v e))

pub made_found : (ks : List (List ℕ)) (u x t : Tree) → pointed ks t ≡ Some x → set_made ks u t ≡ Some (set_pointed ks u t)
made_found [] u x t e = refl
made_found (k ∷ ks) u x t e = found_by (token_into First k t) k ks u x t refl e (λ v f. made_found ks u x v f)

-- where they find nothing, it is added at what the last that find something lead to
added_by : (m : Option Tree) (k : List ℕ) (ks : List (List ℕ)) (v t : Tree) → token_into First k t ≡ Some v → option_map (λ w. set_found (by_token k) w t) (option_map (λ w. set_pointed ks w v) m) ≡ option_map (λ w. set_pointed (k ∷ ks) w t) m
added_by None k ks v t e = refl
added_by (Some w) k ks v t e = ap Some (sym (set_further k ks t w v e))

itself : (m : Option Tree) → m ≡ option_map (λ w. w) m
itself None = refl
itself (Some w) = refl

below_by : (o : Option Tree) (q : List ℕ) (p : List (List ℕ)) (k : List ℕ) (r : List (List ℕ)) (u x t : Tree) → token_into First q t ≡ o → option_and_then (pointed p) o ≡ Some x
    → ((v : Tree) → pointed p v ≡ Some x → set_made (p ++ k ∷ r) u v ≡ option_map (λ w. set_pointed p w v) (member_added k (nested r u) x))
    → set_made (q ∷ (p ++ k ∷ r)) u t ≡ option_map (λ w. set_pointed (q ∷ p) w t) (member_added k (nested r u) x)
below_by None q p k r u x t e f ih = cc
below_by (Some v) q p k r u x t e f ih =
    ap (λ o. set_within o q (set_made (p ++ k ∷ r) u) (nested (p ++ k ∷ r) u) t) e ∙ ap (option_map (λ w. set_found (by_token q) w t)) (ih v f) ∙ added_by (member_added k (nested r u) x) q p v t e

pub made_below : (p : List (List ℕ)) (k : List ℕ) (r : List (List ℕ)) (u x t : Tree) → pointed p t ≡ Some x → token_into First k x ≡ None → set_made (p ++ k ∷ r) u t ≡ option_map (λ w. set_pointed p w t) (member_added k (nested r u) x)
made_below [] k r u x t e n =
    ap (set_made (k ∷ r) u) (same_Some t x e) ∙ ap (λ o. set_within o k (set_made r u) (nested r u) x) n ∙ itself (member_added k (nested r u) x)
made_below (q ∷ p) k r u x t e n = below_by (token_into First q t) q p k r u x t refl e (λ v f. made_below p k r u x v f n)

module _ (k : List ℕ) (u : Tree) where
  added_some : (x : Tree) → IsSome (as_members x) → member_added k u x ≡ Some (with_member k u x)
  added_some (obj ms) h = refl
  added_some null h = absurd (true≢false (sym h))
  added_some (boolean b) h = absurd (true≢false (sym h))
  added_some (int n c) h = absurd (true≢false (sym h))
  added_some (text s) h = absurd (true≢false (sym h))
  added_some (list is) h = absurd (true≢false (sym h))

  added_none : (x : Tree) → as_members x ≡ None → member_added k u x ≡ None
  added_none (obj ms) h = cc
  added_none null h = refl
  added_none (boolean b) h = refl
  added_none (int n c) h = refl
  added_none (text s) h = refl
  added_none (list is) h = refl

module _ (p : List (List ℕ)) (k : List ℕ) (r : List (List ℕ)) (u x t : Tree) (e : pointed p t ≡ Some x) (n : token_into First k x ≡ None) where
  -- where they lead to an object, it is a new member there
  pub made_there : IsSome (as_members x) → set_made (p ++ k ∷ r) u t ≡ Some (set_pointed p (with_member k (nested r u) x) t)
  made_there s = made_below p k r u x t e n ∙ ap (option_map (λ w. set_pointed p w t)) (added_some k (nested r u) x s)

  -- anything else takes none
  pub made_nowhere : as_members x ≡ None → set_made (p ++ k ∷ r) u t ≡ None
  made_nowhere s = made_below p k r u x t e n ∙ ap (option_map (λ w. set_pointed p w t)) (added_none k (nested r u) x s)

-- what is set in the place of what was made is what is made of it
put_again : (k : List ℕ) (ks : List (List ℕ)) (u v : Tree) (ms : Members) → set_pointed ks u (nested ks v) ≡ nested ks u → set_pointed (k ∷ ks) u (obj (put k (nested ks v) ms)) ≡ obj (put k (nested ks u) ms)
put_again k ks u v ms h =
    set_further k ks (obj (put k (nested ks v) ms)) u (nested ks v) (find-put_same k (nested ks v) ms) ∙ ap obj (put-twice k (set_pointed ks u (nested ks v)) (nested ks v) ms) ∙ ap (λ w. obj (put k w ms)) h

nested_set : (ks : List (List ℕ)) (u v : Tree) → set_pointed ks u (nested ks v) ≡ nested ks u
nested_set [] u v = refl
nested_set (k ∷ ks) u v = put_again k ks u v no_members (nested_set ks u v)

added_again : (k : List ℕ) (ks : List (List ℕ)) (u v t : Tree) → member_added k (nested ks u) t ≡ option_map (set_pointed (k ∷ ks) u) (member_added k (nested ks v) t)
added_again k ks u v (obj ms) = ap Some (sym (put_again k ks u v ms (nested_set ks u v)))
added_again k ks u v null = refl
added_again k ks u v (boolean b) = refl
added_again k ks u v (int n c) = refl
added_again k ks u v (text s) = refl
added_again k ks u v (list is) = refl

found_again : (m : Option Tree) (k : List ℕ) (ks : List (List ℕ)) (u x t : Tree) → token_into First k t ≡ Some x
    → option_map (λ w. set_found (by_token k) w t) (option_map (set_pointed ks u) m) ≡ option_map (set_pointed (k ∷ ks) u) (option_map (λ w. set_found (by_token k) w t) m)
found_again None k ks u x t e = refl
found_again (Some w) k ks u x t e =
    ap Some (sym (set_further k ks (set_found (by_token k) w t) u w (step_there (by_token k) w x t e) ∙ set_found-twice (by_token k) (set_pointed ks u w) w t))

again_by : (o : Option Tree) (k : List ℕ) (ks : List (List ℕ)) (u v t : Tree) → token_into First k t ≡ o → ((x : Tree) → set_made ks u x ≡ option_map (set_pointed ks u) (set_made ks v x))
    → set_within o k (set_made ks u) (nested ks u) t ≡ option_map (set_pointed (k ∷ ks) u) (set_within o k (set_made ks v) (nested ks v) t)
again_by None k ks u v t e ih = added_again k ks u v t
again_by (Some x) k ks u v t e ih = ap (option_map (λ w. set_found (by_token k) w t)) (ih x) ∙ found_again (set_made ks v x) k ks u x t e

pub made_again : (ks : List (List ℕ)) (u v t : Tree) → set_made ks u t ≡ option_map (set_pointed ks u) (set_made ks v t)
made_again [] u v t = refl
made_again (k ∷ ks) u v t = again_by (token_into First k t) k ks u v t refl (λ x. made_again ks u v x)

why_mapped : {A B : Type 0} (e : AccessError) (f : A → B) (o : Option A) → edit_fault e (option_map f o) ≡ edit_fault e o
why_mapped e f None = refl
why_mapped e f (Some x) = refl

-- it is refused alike, whatever is set
pub why_again : (e : AccessError) (ks : List (List ℕ)) (u v t : Tree) → edit_fault e (set_made ks u t) ≡ edit_fault e (set_made ks v t)
why_again e ks u v t = ap (edit_fault e) (made_again ks u v t) ∙ why_mapped e (set_pointed ks u) (set_made ks v t)

pub why_some : {A : Type 0} (e : AccessError) (o : Option A) → IsSome o → edit_fault e o ≡ OutOfMemory
why_some e None h = absurd (true≢false (sym h))
why_some e (Some x) h = refl

one_by : (o : Option Tree) → option_and_then (λ v. Some v) o ≡ o
one_by None = refl
one_by (Some v) = refl

snoc_by : (o : Option Tree) (p : List (List ℕ)) (k : List ℕ) → ((v : Tree) → pointed (p ++ k ∷ []) v ≡ option_and_then (token_into First k) (pointed p v))
    → option_and_then (pointed (p ++ k ∷ [])) o ≡ option_and_then (token_into First k) (option_and_then (pointed p) o)
snoc_by None p k ih = refl
snoc_by (Some v) p k ih = ih v

-- the tokens in front of the last
pub pointed-snoc : (p : List (List ℕ)) (k : List ℕ) (t : Tree) → pointed (p ++ k ∷ []) t ≡ option_and_then (token_into First k) (pointed p t)
pointed-snoc [] k t = one_by (token_into First k t)
pointed-snoc (q ∷ p) k t = snoc_by (token_into First q t) p k (λ v. pointed-snoc p k v)

-- one token of a list, in a loop over it
module _ (ts : List (String Global)) (d : ℕ) (s : String Global) (l : d < length ts) (e : s ≡ get_or ts d s) where
  from_here : drop d ts ≡ s ∷ drop (suc d) ts
  from_here = drop-cons ts d s l ∙ ap (λ x. x ∷ drop (suc d) ts) (sym e)

  pub found_once_more : (t a b : Tree) → pointed (map string_bytes (take d ts)) t ≡ Some a → token_into First (string_bytes s) a ≡ Some b → pointed (map string_bytes (take (suc d) ts)) t ≡ Some b
  found_once_more t a b h i =
      ap (λ r. pointed (map string_bytes r) t) (take-suc ts d s l ∙ ap (λ x. take d ts ++ x ∷ []) (sym e)) ∙ ap (λ r. pointed r t) (map-append string_bytes (take d ts) (s ∷ []))
      ∙ pointed-snoc (map string_bytes (take d ts)) (string_bytes s) t ∙ ap (option_and_then (token_into First (string_bytes s))) h ∙ i

  pub ends_here : (u : Tree) (is : Bool) → token_into First (string_bytes s) u ≡ None → is ≡ is_some (as_members u) → IsEndOf (map string_bytes (drop d ts)) u is
  ends_here u is n q = subst (λ r. IsEndOf (map string_bytes r) u is) (sym from_here) (n, q)

none_of : {A : Type 0} (o : Option A) → is_some o ≡ false → o ≡ None
none_of None h = refl
none_of (Some x) h = absurd (true≢false h)

-- tokens of which the first lead to u, where the next finds nothing
module _ (way rest ts : List (String Global)) (s : String Global) (t u : Tree) (is : Bool)
    (l : 1 ≤ length rest) (e : s ≡ get_or rest 0 s) (j : way ++ rest ≡ ts) (f : pointed (map string_bytes way) t ≡ Some u) (n : IsEndOf (map string_bytes rest) u is) where
  next_first : rest ≡ s ∷ drop 1 rest
  next_first = drop-cons rest 0 s l ∙ ap (λ x. x ∷ drop 1 rest) (sym e)

  keys : map string_bytes ts ≡ map string_bytes way ++ string_bytes s ∷ map string_bytes (drop 1 rest)
  keys = ap (map string_bytes) (sym j) ∙ map-append string_bytes way rest ∙ ap (λ r. map string_bytes way ++ map string_bytes r) next_first

  end : IsEndOf (string_bytes s ∷ map string_bytes (drop 1 rest)) u is
  end = subst (λ r. IsEndOf (map string_bytes r) u is) next_first n

  pub shut_way : is ≡ false → edit_fault NotAnObject (set_made (map string_bytes ts) null t) ≡ NotAnObject
  shut_way h =
      ap (λ k. edit_fault NotAnObject (set_made k null t)) keys
      ∙ ap (edit_fault NotAnObject) (made_nowhere (map string_bytes way) (string_bytes s) (map string_bytes (drop 1 rest)) null u t f end.0 (none_of (as_members u) (sym end.1 ∙ h)))

  pub is_open : is ≡ true → IsSome (as_members u)
  is_open h = sym end.1 ∙ h

  pub open_way : is ≡ true → set_made (map string_bytes ts) null t ≡ Some (set_pointed (map string_bytes way) (with_member (string_bytes s) (nested (map string_bytes (drop 1 rest)) null) u) t)
  open_way h = ap (λ k. set_made k null t) keys ∙ made_there (map string_bytes way) (string_bytes s) (map string_bytes (drop 1 rest)) null u t f end.0 (is_open h)

  pub wants_memory : is ≡ true → edit_fault NotAnObject (set_made (map string_bytes ts) null t) ≡ OutOfMemory
  wants_memory h = ap (edit_fault NotAnObject) (open_way h)
