-- Operations on what stands at a pointer.
use Rattle.std.proofs.Common.{◌≡◌, ℕ, ◌&&◌, Bool, true, false, List, [], ◌∷◌, ◌++◌, Option, Some, None, option_and_then, Result, Ok, Err, if◌then◌else◌, refl, sym, ap, ◌∙◌}
use Rattle.std.proofs.lemmas.List.{map-append}
use Rattle.std.proofs.lemmas.Slice.Eq.{bytes_eq-Decides}
use Rattle.std.proofs.lemmas.Option.{same_Some}
use Rattle.sj_text_core.specs.Tree.{Tree}
use Rattle.sj_text_core.specs.Equal.{tree_eq}
use Rattle.sj_text_core.specs.Paths.{by_token, set_found, change_found, tree_at, set_at}
use Rattle.sj_text_core.specs.declared.repeats.Repeats.TheVariants.{First}
use Rattle.sj_text_core.proofs.Writes.{tree_at-set, set_at-same, set_at-twice, tree_at-join, set_at-join}
use Rattle.sj_pointer.specs.Pointed.{path_of, token_into, pointed, set_pointed}
use Rattle.sj_patch.specs.Patch.{PlainOperation, add, remove, replace, move, copy, test, or_missing, onwards, within, added_in, removed_in, added, removed, replaced, stayed, begins, copied, tested, moved, applied}
use Rattle.sj_patch.specs.Locality.{under, IsBelow}
use Rattle.sj_text_core.specs.declared.patch_fault.OperationFault.{OperationFault}
use Rattle.sj_text_core.specs.declared.patch_fault.OperationFault.TheVariants.{Differs, IntoItself}

-- the tree with w at ks
abbrev pub back : List (List ℕ) → Tree → Tree → Result Tree OperationFault
back ks t w = Ok (set_pointed ks w t)

-- pointers in two parts
pub pointed-join : (ks ls : List (List ℕ)) (t u : Tree) → pointed ks t ≡ Some u → pointed (ks ++ ls) t ≡ pointed ls u
pointed-join ks ls t u e = ap (λ p. tree_at p t) (map-append by_token ks ls) ∙ tree_at-join (path_of ks) (path_of ls) t ∙ ap (option_and_then (pointed ls)) e

pub set_pointed-join : (ks ls : List (List ℕ)) (w t u : Tree) → pointed ks t ≡ Some u → set_pointed (ks ++ ls) w t ≡ set_pointed ks (set_pointed ls w u) t
set_pointed-join ks ls w t u e = ap (λ p. set_at p w t) (map-append by_token ks ls) ∙ set_at-join (path_of ks) (path_of ls) w u t e

pub begins-join : (ks ps qs : List (List ℕ)) → begins (ks ++ ps) (ks ++ qs) ≡ begins ps qs
begins-join [] ps qs = refl
begins-join (k ∷ ks) ps qs = ap (λ b. b && begins (ks ++ ps) (ks ++ qs)) ((bytes_eq-Decides k k).1 refl) ∙ begins-join ks ps qs

-- what was put back is put back once more
pub onwards-Ok : (r : Result Tree OperationFault) → onwards r (λ w. Ok w) ≡ r
onwards-Ok (Ok t) = refl
onwards-Ok (Err w) = refl

pub set_on : (r : Result Tree OperationFault) (g h : Tree → Tree) → onwards (onwards r (λ w. Ok (g w))) (λ w. Ok (h w)) ≡ onwards r (λ w. Ok (h (g w)))
set_on (Ok t) g h = refl
set_on (Err w) g h = refl

back_twice : (ks : List (List ℕ)) (w t : Tree) (r : Result Tree OperationFault) → onwards r (back ks (set_pointed ks w t)) ≡ onwards r (back ks t)
back_twice ks w t (Ok u) = ap Ok (set_at-twice (path_of ks) u w t)
back_twice ks w t (Err e) = refl

-- f at the last of tokens
abbrev pub at_tokens : (List ℕ → Tree → Result Tree OperationFault) → List (List ℕ) → Tree → Result Tree OperationFault
at_tokens f [] t = Ok t
at_tokens f (k ∷ ks) t = within f k ks t

module _ (f : List ℕ → Tree → Result Tree OperationFault) (k : List ℕ) (p : List (List ℕ)) (u : Tree) where
  below_by : (l : List ℕ) (ks : List (List ℕ)) (t : Tree) (o : Option Tree) → token_into First l t ≡ o → option_and_then (pointed ks) o ≡ Some u
      → ((x : Tree) → pointed ks x ≡ Some u → at_tokens f (ks ++ k ∷ p) x ≡ onwards (within f k p u) (back ks x))
      → onwards (or_missing o) (λ x. onwards (at_tokens f (ks ++ k ∷ p) x) (λ w. Ok (set_found (by_token l) w t))) ≡ onwards (within f k p u) (back (l ∷ ks) t)
  below_by l ks t None g e ih = cc
  below_by l ks t (Some x) g e ih =
      ap (λ r. onwards r (λ w. Ok (set_found (by_token l) w t))) (ih x e) ∙ set_on (within f k p u) (λ w. set_pointed ks w x) (λ w. set_found (by_token l) w t)
      ∙ ap (λ o. onwards (within f k p u) (λ w. Ok (change_found o (by_token l) (set_pointed ks w) t))) (sym g)

  -- a change below ks is one of what they find
  below : (ks : List (List ℕ)) (t : Tree) → pointed ks t ≡ Some u → at_tokens f (ks ++ k ∷ p) t ≡ onwards (within f k p u) (back ks t)
  below [] t e = ap (within f k p) (same_Some t u e) ∙ sym (onwards-Ok (within f k p u))
  below (l ∷ []) t e = below_by l [] t (token_into First l t) refl e (λ x g. below [] x g)
  below (l ∷ m ∷ ks) t e = below_by l (m ∷ ks) t (token_into First l t) refl e (λ x g. below (m ∷ ks) x g)

pub added-below : (ks : List (List ℕ)) (k : List ℕ) (p : List (List ℕ)) (v t u : Tree) → pointed ks t ≡ Some u → added (ks ++ k ∷ p) v t ≡ onwards (added (k ∷ p) v u) (back ks t)
added-below [] k p v t u e = below (added_in v) k p u [] t e
added-below (l ∷ ks) k p v t u e = below (added_in v) k p u (l ∷ ks) t e

pub removed-below : (ks : List (List ℕ)) (k : List ℕ) (p : List (List ℕ)) (t u : Tree) → pointed ks t ≡ Some u → removed (ks ++ k ∷ p) t ≡ onwards (removed (k ∷ p) u) (back ks t)
removed-below [] k p t u e = below removed_in k p u [] t e
removed-below (l ∷ ks) k p t u e = below removed_in k p u (l ∷ ks) t e

replaced_by : (ks p : List (List ℕ)) (v t u : Tree) (o : Option Tree) → onwards (or_missing o) (λ _. Ok (set_pointed ks (set_pointed p v u) t)) ≡ onwards (onwards (or_missing o) (λ _. Ok (set_pointed p v u))) (back ks t)
replaced_by ks p v t u None = refl
replaced_by ks p v t u (Some x) = refl

replaced-below : (ks p : List (List ℕ)) (v t u : Tree) → pointed ks t ≡ Some u → replaced (ks ++ p) v t ≡ onwards (replaced p v u) (back ks t)
replaced-below ks p v t u e = (λ i. onwards (or_missing (pointed-join ks p t u e i)) (λ _. Ok (set_pointed-join ks p v t u e i))) ∙ replaced_by ks p v t u (pointed p u)

tested_if : (b : Bool) (ks : List (List ℕ)) (t u : Tree) → pointed ks t ≡ Some u → (if b then Ok t else Err Differs) ≡ onwards (if b then Ok u else Err Differs) (back ks t)
tested_if true ks t u e = ap Ok (sym (set_at-same (path_of ks) u t e))
tested_if false ks t u e = refl

tested_by : (ks : List (List ℕ)) (v t u : Tree) (o : Option Tree) → pointed ks t ≡ Some u
    → onwards (or_missing o) (λ x. if tree_eq x v then Ok t else Err Differs) ≡ onwards (onwards (or_missing o) (λ x. if tree_eq x v then Ok u else Err Differs)) (back ks t)
tested_by ks v t u None e = refl
tested_by ks v t u (Some x) e = tested_if (tree_eq x v) ks t u e

tested-below : (ks p : List (List ℕ)) (v t u : Tree) → pointed ks t ≡ Some u → tested (ks ++ p) v t ≡ onwards (tested p v u) (back ks t)
tested-below ks p v t u e = ap (λ o. onwards (or_missing o) (λ x. if tree_eq x v then Ok t else Err Differs)) (pointed-join ks p t u e) ∙ tested_by ks v t u (pointed p u) e

stayed_by : (ks : List (List ℕ)) (t u : Tree) (o : Option Tree) → pointed ks t ≡ Some u → onwards (or_missing o) (λ _. Ok t) ≡ onwards (onwards (or_missing o) (λ _. Ok u)) (back ks t)
stayed_by ks t u None e = refl
stayed_by ks t u (Some x) e = ap Ok (sym (set_at-same (path_of ks) u t e))

stayed-below : (ks p : List (List ℕ)) (t u : Tree) → pointed ks t ≡ Some u → stayed (ks ++ p) t ≡ onwards (stayed p u) (back ks t)
stayed-below ks p t u e = ap (λ o. onwards (or_missing o) (λ _. Ok t)) (pointed-join ks p t u e) ∙ stayed_by ks t u (pointed p u) e

copied_by : (ks : List (List ℕ)) (k : List ℕ) (q : List (List ℕ)) (t u : Tree) (o : Option Tree) → pointed ks t ≡ Some u
    → onwards (or_missing o) (λ v. added (ks ++ k ∷ q) v t) ≡ onwards (onwards (or_missing o) (λ v. added (k ∷ q) v u)) (back ks t)
copied_by ks k q t u None e = refl
copied_by ks k q t u (Some v) e = added-below ks k q v t u e

copied-below : (ks p : List (List ℕ)) (k : List ℕ) (q : List (List ℕ)) (t u : Tree) → pointed ks t ≡ Some u → copied (ks ++ p) (ks ++ k ∷ q) t ≡ onwards (copied p (k ∷ q) u) (back ks t)
copied-below ks p k q t u e = ap (λ o. onwards (or_missing o) (λ v. added (ks ++ k ∷ q) v t)) (pointed-join ks p t u e) ∙ copied_by ks k q t u (pointed p u) e

-- what was removed, added where the rest stands
added_back : (ks : List (List ℕ)) (k : List ℕ) (q : List (List ℕ)) (t u w : Tree) (o : Option Tree) → pointed ks t ≡ Some u
    → onwards (or_missing o) (λ v. added (ks ++ k ∷ q) v (set_pointed ks w t)) ≡ onwards (onwards (or_missing o) (λ v. added (k ∷ q) v w)) (back ks t)
added_back ks k q t u w None e = refl
added_back ks k q t u w (Some v) e = added-below ks k q v (set_pointed ks w t) w (tree_at-set (path_of ks) w u t e) ∙ back_twice ks w t (added (k ∷ q) v w)

moved_by : (ks : List (List ℕ)) (k : List ℕ) (q : List (List ℕ)) (t u : Tree) (r : Result Tree OperationFault) (o : Option Tree) → pointed ks t ≡ Some u
    → onwards (onwards r (back ks t)) (λ w. onwards (or_missing o) (λ v. added (ks ++ k ∷ q) v w)) ≡ onwards (onwards r (λ w. onwards (or_missing o) (λ v. added (k ∷ q) v w))) (back ks t)
moved_by ks k q t u (Ok w) o e = added_back ks k q t u w o e
moved_by ks k q t u (Err w) o e = refl

moved_if : (b c : Bool) (ks : List (List ℕ)) (t : Tree) (s s' m m' : Result Tree OperationFault) → s' ≡ onwards s (back ks t) → m' ≡ onwards m (back ks t)
    → (if b then (if c then s' else Err IntoItself) else m') ≡ onwards (if b then (if c then s else Err IntoItself) else m) (back ks t)
moved_if true true ks t s s' m m' d e = d
moved_if true false ks t s s' m m' d e = refl
moved_if false c ks t s s' m m' d e = e

-- by whether the one pointer begins the other, with ks and without
pub moved-begun : (ks p q : List (List ℕ)) (t : Tree) (s m : Result Tree OperationFault)
    → (if begins (ks ++ p) (ks ++ q) then (if begins (ks ++ q) (ks ++ p) then s else Err IntoItself) else m) ≡ (if begins p q then (if begins q p then s else Err IntoItself) else m)
moved-begun ks p q t s m = λ i. if begins-join ks p q i then (if begins-join ks q p i then s else Err IntoItself) else m

moved-below : (ks p q : List (List ℕ)) (t u : Tree) → pointed ks t ≡ Some u → (q ≡ [] → p ≡ []) → moved (ks ++ p) (ks ++ q) t ≡ onwards (moved p q u) (back ks t)
moved-below ks [] [] t u e h = moved-begun ks [] [] t _ _ ∙ stayed-below ks [] t u e
moved-below ks [] (l ∷ q) t u e h = moved-begun ks [] (l ∷ q) t _ _
moved-below ks (k ∷ p) [] t u e h = let bad : k ∷ p ≡ [] = h refl in cc
moved-below ks (k ∷ p) (l ∷ q) t u e h =
    moved-begun ks (k ∷ p) (l ∷ q) t _ _ ∙ moved_if (begins (k ∷ p) (l ∷ q)) (begins (l ∷ q) (k ∷ p)) ks t (stayed (k ∷ p) u) _ _ _ (stayed-below ks (k ∷ p) t u e)
    ((λ i. onwards (removed-below ks k p t u e i) (λ w. onwards (or_missing (pointed-join ks (k ∷ p) t u e i)) (λ v. added (ks ++ l ∷ q) v w))) ∙ moved_by ks l q t u (removed (k ∷ p) u) (pointed (k ∷ p) u) e)

-- one operation
pub applied-below : (ks : List (List ℕ)) (op : PlainOperation) (t u : Tree) → pointed ks t ≡ Some u → IsBelow op → applied (under ks op) t ≡ onwards (applied op u) (back ks t)
applied-below ks (add [] v) t u e h = absurd (h refl)
applied-below ks (add (k ∷ p) v) t u e h = added-below ks k p v t u e
applied-below ks (remove []) t u e h = absurd (h refl)
applied-below ks (remove (k ∷ p)) t u e h = removed-below ks k p t u e
applied-below ks (replace p v) t u e h = replaced-below ks p v t u e
applied-below ks (move p q) t u e h = moved-below ks p q t u e h
applied-below ks (copy p []) t u e h = absurd (h refl)
applied-below ks (copy p (k ∷ q)) t u e h = copied-below ks p k q t u e
applied-below ks (test p v) t u e h = tested-below ks p v t u e
