-- What operations do to trees that are the same.
use Rattle.std.proofs.Common.{◌≡◌, ℕ, suc, Bool, true, false, List, [], ◌∷◌, Option, Some, None, option_map, Result, Ok, Err, if◌then◌else◌, refl, ap, subst}
use Rattle.std.specs.List.{AllByRecursion}
use Rattle.sj_text_core.specs.Tree.{Tree, list, obj, Items, items_len}
use Rattle.sj_text_core.specs.Find.{find_member, nth_item}
use Rattle.sj_text_core.specs.Same.{Same, SameItems}
use Rattle.sj_text_core.specs.inner.Agree.{SameFound}
use Rattle.sj_text_core.specs.Keep.{IsSingle, AreSingle}
use Rattle.sj_text_core.specs.Equal.{tree_eq}
use Rattle.sj_text_core.specs.Edits.{cut}
use Rattle.sj_text_core.specs.Places.{position_of}
use Rattle.sj_text_core.specs.declared.repeats.Repeats.TheVariants.{First}
use Rattle.sj_text_core.proofs.Equality.{same-refl}
use Rattle.sj_text_core.proofs.Equal.{tree_eq-decides, tree_eq-equivalence}
use Rattle.sj_pointer.specs.Pointed.{token_into, pointed}
use Rattle.sj_document.specs.Items.{remove_at}
use Rattle.sj_patch.specs.Patch.{PlainOperation, add, remove, replace, move, copy, test, or_missing, onwards, within, place_among, added_at, added_in, removed_at, removed_in, added, removed, replaced, stayed, begins, copied, tested, moved, applied, next, patched_from}
use Rattle.sj_patch.specs.Laws.{SameOutcome, HasSingleValue}
use Rattle.sj_patch.proofs.SameEdits.{by_same, found-same, same-put, same-cut, same-insert_at, same-remove_at, same-nth_item, same-token, same-set_found, same-pointed, same-set_pointed}
use Rattle.sj_patch.proofs.SingleEdits.{single-cut, single-insert_at, single-remove_at, single-token, single-set_found, single-pointed, single-set_pointed}
use Rattle.sj_text_core.specs.declared.patch_fault.OperationFault.{OperationFault}
use Rattle.sj_text_core.specs.declared.patch_fault.OperationFault.TheVariants.{Differs, IntoItself}
use Rattle.sj_text_core.proofs.Single.{SingleFound, single-put}
use Rattle.sj_text_core.proofs.Shapes.{same_items_len}

-- two trees that are the same, in each of which a text names one member
abbrev pub Twins : Tree → Tree → Type 0
Twins t u = Same t u × IsSingle t × IsSingle u

-- such trees, or one fault
abbrev pub Alike : {E : Type 0} → Result Tree E → Result Tree E → Type 0
Alike {E} (Ok t) (Ok u) = Twins t u
Alike {E} (Err e) (Err d) = e ≡ d
Alike {E} _ _ = ⊥

pub onwards-alike : (r s : Result Tree OperationFault) (f g : Tree → Result Tree OperationFault) → Alike r s → ((t u : Tree) → Twins t u → Alike (f t) (g u)) → Alike (onwards r f) (onwards s g)
onwards-alike (Ok t) (Ok u) f g h k = k t u h
onwards-alike (Ok t) (Err d) f g h k = absurd h
onwards-alike (Err e) (Ok u) f g h k = absurd h
onwards-alike (Err e) (Err d) f g h k = h

missing-alike : (o p : Option Tree) → SameFound o p → SingleFound o → SingleFound p → Alike (or_missing o) (or_missing p)
missing-alike None None h x y = refl
missing-alike None (Some u) h x y = cc
missing-alike (Some t) None h x y = absurd h
missing-alike (Some t) (Some u) h x y = (h, x, y)

token-alike : (k : List ℕ) (t u : Tree) → Twins t u → Alike (or_missing (token_into First k t)) (or_missing (token_into First k u))
token-alike k t u h = missing-alike (token_into First k t) (token_into First k u) (same-token k t u h.0) (single-token k t h.1) (single-token k u h.2)

pointed-alike : (ks : List (List ℕ)) (t u : Tree) → Twins t u → Alike (or_missing (pointed ks t)) (or_missing (pointed ks u))
pointed-alike ks t u h = missing-alike (pointed ks t) (pointed ks u) (same-pointed ks t u h.0) (single-pointed ks t h.1) (single-pointed ks u h.2)

module _ (f g : List ℕ → Tree → Result Tree OperationFault) (h : (k : List ℕ) (t u : Tree) → Twins t u → Alike (f k t) (g k u)) where
  within-alike : (k : List ℕ) (ks : List (List ℕ)) (t u : Tree) → Twins t u → Alike (within f k ks t) (within g k ks u)
  within-alike k [] t u s = h k t u s
  within-alike k (l ∷ ks) t u s = onwards-alike (or_missing (token_into First k t)) (or_missing (token_into First k u)) _ _ (token-alike k t u s)
      (λ x y p. onwards-alike (within f l ks x) (within g l ks y) _ _ (within-alike l ks x y p)
      (λ w z q. (same-set_found k w z t u q.0 s.0, single-set_found k w t q.1 s.1, single-set_found k z u q.2 s.2)))

-- in a container
added_item : (o : Option ℕ) (v w : Tree) (is js : Items) → Twins v w → SameItems is js → AreSingle is → AreSingle js → Alike (added_at o v is) (added_at o w js)
added_item None v w is js s h x y = refl
added_item (Some i) v w is js s h x y = (same-insert_at i v w is js s.0 h, single-insert_at i v is s.1 x, single-insert_at i w js s.2 y)

added_in-alike : (v w : Tree) → Twins v w → (k : List ℕ) (t u : Tree) → Twins t u → Alike (added_in v k t) (added_in w k u)
added_in-alike v w s k t u h = by_same (λ t u. IsSingle t → IsSingle u → Alike (added_in v k t) (added_in w k u))
    (λ x y. refl) (λ b x y. refl) (λ n m c d e x y. refl) (λ r x y. refl)
    (λ is js g x y. subst (λ n. Alike (added_at (place_among (items_len is) k) v is) (added_at (place_among n k) w js)) (same_items_len is js g) (added_item (place_among (items_len is) k) v w is js s g x y))
    (λ ms ns g x y. (same-put k v w ms ns s.0 g, single-put k v ms s.1 x, single-put k w ns s.2 y)) t u h.0 h.1 h.2

mapped : (o p : Option Tree) (t u : Tree) → SameFound o p → Twins t u → Alike (or_missing (option_map (λ _. t) o)) (or_missing (option_map (λ _. u) p))
mapped None None t u h s = refl
mapped None (Some y) t u h s = cc
mapped (Some x) None t u h s = absurd h
mapped (Some x) (Some y) t u h s = s

removed_item : (o : Option ℕ) (is js : Items) → SameItems is js → AreSingle is → AreSingle js → Alike (or_missing (removed_at o is)) (or_missing (removed_at o js))
removed_item None is js h x y = refl
removed_item (Some i) is js h x y = mapped (nth_item i is) (nth_item i js) (list (remove_at i is)) (list (remove_at i js)) (same-nth_item i is js h) (same-remove_at i is js h, single-remove_at i is x, single-remove_at i js y)

removed_in-alike : (k : List ℕ) (t u : Tree) → Twins t u → Alike (removed_in k t) (removed_in k u)
removed_in-alike k t u h = by_same (λ t u. IsSingle t → IsSingle u → Alike (removed_in k t) (removed_in k u))
    (λ x y. refl) (λ b x y. refl) (λ n m c d e x y. refl) (λ r x y. refl) (λ is js g x y. removed_item (position_of k) is js g x y)
    (λ ms ns g x y. mapped (find_member k ms) (find_member k ns) (obj (cut k ms)) (obj (cut k ns)) (found-same ms ns g k) (same-cut k ms ns x y g, single-cut k ms x, single-cut k ns y)) t u h.0 h.1 h.2

-- at a pointer
added-alike : (ks : List (List ℕ)) (v w t u : Tree) → Twins v w → Twins t u → Alike (added ks v t) (added ks w u)
added-alike [] v w t u s h = s
added-alike (k ∷ ks) v w t u s h = within-alike (added_in v) (added_in w) (added_in-alike v w s) k ks t u h

removed-alike : (ks : List (List ℕ)) (t u : Tree) → Twins t u → Alike (removed ks t) (removed ks u)
removed-alike [] t u h = refl
removed-alike (k ∷ ks) t u h = within-alike removed_in removed_in removed_in-alike k ks t u h

replaced-alike : (ks : List (List ℕ)) (v t u : Tree) → IsSingle v → Twins t u → Alike (replaced ks v t) (replaced ks v u)
replaced-alike ks v t u s h = onwards-alike (or_missing (pointed ks t)) (or_missing (pointed ks u)) _ _ (pointed-alike ks t u h)
    (λ x y p. (same-set_pointed ks v v t u (same-refl v) h.0, single-set_pointed ks v t s h.1, single-set_pointed ks v u s h.2))

stayed-alike : (ks : List (List ℕ)) (t u : Tree) → Twins t u → Alike (stayed ks t) (stayed ks u)
stayed-alike ks t u h = onwards-alike (or_missing (pointed ks t)) (or_missing (pointed ks u)) _ _ (pointed-alike ks t u h) (λ x y p. h)

copied-alike : (from to : List (List ℕ)) (t u : Tree) → Twins t u → Alike (copied from to t) (copied from to u)
copied-alike from to t u h = onwards-alike (or_missing (pointed from t)) (or_missing (pointed from u)) _ _ (pointed-alike from t u h) (λ v w s. added-alike to v w t u s h)

moved_by : (b c : Bool) (r s m n : Result Tree OperationFault) → Alike r s → Alike m n → Alike (if b then (if c then r else Err IntoItself) else m) (if b then (if c then s else Err IntoItself) else n)
moved_by true true r s m n h i = h
moved_by true false r s m n h i = refl
moved_by false c r s m n h i = i

moved-alike : (from to : List (List ℕ)) (t u : Tree) → Twins t u → Alike (moved from to t) (moved from to u)
moved-alike from to t u h = moved_by (begins from to) (begins to from) _ _ _ _ (stayed-alike from t u h)
    (onwards-alike (removed from t) (removed from u) _ _ (removed-alike from t u h) (λ x y p. onwards-alike (or_missing (pointed from t)) (or_missing (pointed from u)) _ _ (pointed-alike from t u h) (λ v w s. added-alike to v w x y s p)))

tested_by : (b c : Bool) (t u : Tree) → b ≡ c → Twins t u → Alike (if b then Ok t else Err Differs) (if c then Ok u else Err Differs)
tested_by true true t u e h = h
tested_by true false t u e h = cc
tested_by false true t u e h = cc
tested_by false false t u e h = refl

tested-alike : (ks : List (List ℕ)) (v t u : Tree) → Twins t u → Alike (tested ks v t) (tested ks v u)
tested-alike ks v t u h = onwards-alike (or_missing (pointed ks t)) (or_missing (pointed ks u)) _ _ (pointed-alike ks t u h)
    (λ x y s. tested_by (tree_eq x v) (tree_eq y v) t u (tree_eq-equivalence.congr x y v ((tree_eq-decides x y).1 s.0)) h)

-- one operation
pub applied-alike : (op : PlainOperation) (t u : Tree) → HasSingleValue op → Twins t u → Alike (applied op t) (applied op u)
applied-alike (add ks v) t u s h = added-alike ks v v t u (same-refl v, s, s) h
applied-alike (remove ks) t u s h = removed-alike ks t u h
applied-alike (replace ks v) t u s h = replaced-alike ks v t u s h
applied-alike (move from to) t u s h = moved-alike from to t u h
applied-alike (copy from to) t u s h = copied-alike from to t u h
applied-alike (test ks v) t u s h = tested-alike ks v t u h

next-alike : (n : ℕ) (r s : Result Tree OperationFault) (f : Tree → Result Tree (ℕ × OperationFault)) → Alike r s → ((t u : Tree) → Twins t u → Alike (f t) (f u)) → Alike (next n r f) (next n s f)
next-alike n (Ok t) (Ok u) f h k = k t u h
next-alike n (Ok t) (Err d) f h k = absurd h
next-alike n (Err e) (Ok u) f h k = absurd h
next-alike n (Err e) (Err d) f h k = ap (λ w. (n, w)) h

-- operations one after another
pub patched-alike : (n : ℕ) (ops : List PlainOperation) (t u : Tree) → AllByRecursion HasSingleValue ops → Twins t u → Alike (patched_from n ops t) (patched_from n ops u)
patched-alike n [] t u s h = h
patched-alike n (op ∷ ops) t u s h = next-alike n (applied op t) (applied op u) (patched_from (suc n) ops) (applied-alike op t u s.0 h) (λ x y g. patched-alike (suc n) ops x y s.1 g)

pub same-alike : {E : Type 0} (r s : Result Tree E) → Alike r s → SameOutcome r s
same-alike (Ok t) (Ok u) h = h.0
same-alike (Ok t) (Err d) h = absurd h
same-alike (Err e) (Ok u) h = absurd h
same-alike (Err e) (Err d) h = h
