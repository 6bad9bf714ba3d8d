-- Operations that lead from one tree to another, joined, and put below a pointer.
use Rattle.std.proofs.Common.{◌≡◌, ◌≢◌, ◌+◌, ℕ, suc, List, [], ◌∷◌, ◌++◌, map, length, append_assoc, append-nil, Some, Result, Ok, Err, refl, sym, ap, ◌∙◌, subst}
use Rattle.std.specs.List.{AllByRecursion}
use Rattle.sj_text_core.specs.Tree.{Tree}
use Rattle.sj_text_core.specs.Same.{Same}
use Rattle.sj_text_core.specs.Keep.{IsSingle}
use Rattle.sj_text_core.proofs.Equality.{same-refl, same-trans}
use Rattle.sj_pointer.specs.Pointed.{pointed, set_pointed}
use Rattle.sj_patch.specs.Patch.{PlainOperation, add, remove, replace, move, copy, test, applied, next, patched_from, patched}
use Rattle.sj_patch.specs.Laws.{then, HasSingleValue}
use Rattle.sj_patch.specs.Locality.{under, IsBelow}
use Rattle.sj_patch.specs.Diff.{Becomes}
use Rattle.sj_patch.specs.inner.Noted.{Leads}
use Rattle.sj_patch.proofs.Joined.{joined}
use Rattle.sj_patch.proofs.LocalPatches.{patched-below}
use Rattle.sj_patch.proofs.SameEdits.{same-set_pointed}
use Rattle.sj_patch.proofs.SingleEdits.{single-set_pointed}
use Rattle.sj_patch.proofs.Alike.{Alike, patched-alike}
use Rattle.sj_text_core.specs.declared.patch_fault.OperationFault.{OperationFault}

pub all-join : (P : PlainOperation → Type 0) (xs ys : List PlainOperation) → AllByRecursion P xs → AllByRecursion P ys → AllByRecursion P (xs ++ ys)
all-join P [] ys h i = i
all-join P (x ∷ xs) ys h i = (h.0, all-join P xs ys h.1 i)

-- the numbers tell of faults alone
renumbered_by : (n m : ℕ) (r : Result Tree OperationFault) (ops : List PlainOperation) (v : Tree) → ((u : Tree) → patched_from (suc n) ops u ≡ Ok v → patched_from (suc m) ops u ≡ Ok v)
    → next n r (patched_from (suc n) ops) ≡ Ok v → next m r (patched_from (suc m) ops) ≡ Ok v
renumbered_by n m (Ok u) ops v ih e = ih u e
renumbered_by n m (Err w) ops v ih e = cc

pub renumbered : (n m : ℕ) (ops : List PlainOperation) (t v : Tree) → patched_from n ops t ≡ Ok v → patched_from m ops t ≡ Ok v
renumbered n m [] t v e = cc
renumbered n m (op ∷ ops) t v e = renumbered_by n m (applied op t) ops v (λ u f. renumbered (suc n) (suc m) ops u v f) e

pub patched-join : (xs ys : List PlainOperation) (t u v : Tree) → patched xs t ≡ Ok u → patched ys u ≡ Ok v → patched (xs ++ ys) t ≡ Ok v
patched-join xs ys t u v e f = joined 0 (0 + length xs) xs ys t refl ∙ ap (λ r. then r (λ w. patched_from (0 + length xs) ys w)) e ∙ renumbered 0 (0 + length xs) ys u v f

done_alike : (r : Result Tree (ℕ × OperationFault)) (u : Tree) → Alike r (Ok u) → (v : Tree) × (r ≡ Ok v) × Same v u
done_alike (Ok v) u h = (v, refl, h.0)
done_alike (Err e) u h = absurd h

-- where t becomes u by the first, and u becomes w by the second, t becomes w by both
pub becomes-join : (xs ys : List PlainOperation) (t u w : Tree) → AllByRecursion HasSingleValue xs → AllByRecursion HasSingleValue ys → IsSingle t → IsSingle u → Becomes xs t u → Becomes ys u w → Becomes (xs ++ ys) t w
becomes-join xs ys t u w p q x y h i =
    let left = subst (λ r. Alike r r) h.1.0 (patched-alike 0 xs t t p (same-refl t, x, x)) in
    let made = done_alike (patched ys h.0) i.0 (subst (λ r. Alike (patched ys h.0) r) i.1.0 (patched-alike 0 ys h.0 u q (h.1.1, left.1, y))) in
    (made.0, (patched-join xs ys t h.0 made.0 h.1.0 made.1, same-trans made.0 i.0 w made.2 i.1.1))

pub leads-join : (xs ys : List PlainOperation) (t u w : Tree) → Leads xs t u → Leads ys u w → Leads (xs ++ ys) t w
leads-join xs ys t u w h i = record {
  values = all-join HasSingleValue xs ys h.values i.values;
  below = all-join IsBelow xs ys h.below i.below;
  single = h.single;
  to_single = i.to_single;
  becomes = becomes-join xs ys t u w h.values i.values h.single h.to_single h.becomes i.becomes;
}

-- no operations lead to what is the same
pub leads-same : (t u : Tree) → IsSingle t → IsSingle u → Same t u → Leads [] t u
leads-same t u x y s = record { values = tt; below = tt; single = x; to_single = y; becomes = (t, (refl, s)) }

-- a replacement leads to anything
pub leads-whole : (t u : Tree) → IsSingle t → IsSingle u → Leads (replace [] u ∷ []) t u
leads-whole t u x y = record { values = (y, tt); below = (tt, tt); single = x; to_single = y; becomes = (u, (refl, same-refl u)) }

pub leads-as : (ops : List PlainOperation) (t u w : Tree) → Leads ops t u → IsSingle w → Same u w → Leads ops t w
leads-as ops t u w h y s = record {
  values = h.values;
  below = h.below;
  single = h.single;
  to_single = y;
  becomes = (h.becomes.0, (h.becomes.1.0, same-trans h.becomes.0 u w h.becomes.1.1 s));
}

-- below a pointer
single_under : (ks : List (List ℕ)) (op : PlainOperation) → HasSingleValue op → HasSingleValue (under ks op)
single_under ks (add p v) h = h
single_under ks (remove p) h = h
single_under ks (replace p v) h = h
single_under ks (move p q) h = h
single_under ks (copy p q) h = h
single_under ks (test p v) h = h

begun : (k : List ℕ) (ks : List (List ℕ)) → k ∷ ks ≢ []
begun k ks e = cc

below_under : (k : List ℕ) (ks : List (List ℕ)) (op : PlainOperation) → IsBelow (under (k ∷ ks) op)
below_under k ks (add p v) = begun k (ks ++ p)
below_under k ks (remove p) = begun k (ks ++ p)
below_under k ks (replace p v) = tt
below_under k ks (move p q) = λ e. absurd (begun k (ks ++ q) e)
below_under k ks (copy p q) = begun k (ks ++ q)
below_under k ks (test p v) = tt

values_under : (ks : List (List ℕ)) (ops : List PlainOperation) → AllByRecursion HasSingleValue ops → AllByRecursion HasSingleValue (map (under ks) ops)
values_under ks [] h = tt
values_under ks (op ∷ ops) h = (single_under ks op h.0, values_under ks ops h.1)

all_below : (k : List ℕ) (ks : List (List ℕ)) (ops : List PlainOperation) → AllByRecursion IsBelow (map (under (k ∷ ks)) ops)
all_below k ks [] = tt
all_below k ks (op ∷ ops) = (below_under k ks op, all_below k ks ops)

pub becomes-below : (ks : List (List ℕ)) (ops : List PlainOperation) (t u w : Tree) → pointed ks t ≡ Some u → AllByRecursion IsBelow ops → Becomes ops u w → Becomes (map (under ks) ops) t (set_pointed ks w t)
becomes-below ks ops t u w e b h = (
  set_pointed ks h.0 t,
  (patched-below 0 ks ops t u e b ∙ ap (λ r. then r (λ x. Ok (set_pointed ks x t))) h.1.0, same-set_pointed ks h.0 w t t h.1.1 (same-refl t)),
)

-- operations on what stands at a pointer lead to the tree with what they make of it
pub leads-below : (k : List ℕ) (ks : List (List ℕ)) (ops : List PlainOperation) (t u w : Tree) → IsSingle t → pointed (k ∷ ks) t ≡ Some u → Leads ops u w → Leads (map (under (k ∷ ks)) ops) t (set_pointed (k ∷ ks) w t)
leads-below k ks ops t u w x e h = record {
  values = values_under (k ∷ ks) ops h.values;
  below = all_below k ks ops;
  single = x;
  to_single = single-set_pointed (k ∷ ks) w t h.to_single x;
  becomes = becomes-below (k ∷ ks) ops t u w e h.below h.becomes;
}

-- pointers put in front one after another
under_join : (ks ls : List (List ℕ)) (op : PlainOperation) → under ks (under ls op) ≡ under (ks ++ ls) op
under_join ks ls (add p v) = ap (λ p. add p v) (sym (append_assoc ks ls p))
under_join ks ls (remove p) = ap remove (sym (append_assoc ks ls p))
under_join ks ls (replace p v) = ap (λ p. replace p v) (sym (append_assoc ks ls p))
under_join ks ls (move p q) = λ i. move (sym (append_assoc ks ls p) i) (sym (append_assoc ks ls q) i)
under_join ks ls (copy p q) = λ i. copy (sym (append_assoc ks ls p) i) (sym (append_assoc ks ls q) i)
under_join ks ls (test p v) = ap (λ p. test p v) (sym (append_assoc ks ls p))

pub under-join : (ks ls : List (List ℕ)) (ops : List PlainOperation) → map (under ks) (map (under ls) ops) ≡ map (under (ks ++ ls)) ops
under-join ks ls [] = refl
under-join ks ls (op ∷ ops) = λ i. under_join ks ls op i ∷ under-join ks ls ops i

-- no pointer in front
under_nothing : (op : PlainOperation) → under [] op ≡ op
under_nothing (add p v) = refl
under_nothing (remove p) = refl
under_nothing (replace p v) = refl
under_nothing (move p q) = refl
under_nothing (copy p q) = refl
under_nothing (test p v) = refl

pub under-nothing : (ops : List PlainOperation) → map (under []) ops ≡ ops
under-nothing [] = refl
under-nothing (op ∷ ops) = λ i. under_nothing op i ∷ under-nothing ops i

-- a replacement of the whole, at a pointer
pub under-whole : (ks : List (List ℕ)) (v : Tree) → under ks (replace [] v) ≡ replace ks v
under-whole ks v = ap (λ p. replace p v) (append-nil ks)
