-- What stands at a pointer, removed, and a value added there.
use Rattle.std.proofs.Common.{◌≡◌, ℕ, zero, suc, ◌≤◌, Bool, true, false, List, [], ◌∷◌, Option, Some, None, option_map, option_and_then, Ok, Err, if◌then◌else◌, bytes_eq, refl, sym, ap, ◌∙◌, subst, arith}
use Rattle.std.proofs.lemmas.Bool.{le-leb}
use Rattle.std.proofs.lemmas.Slice.Eq.{bytes_eq-Decides}
use Rattle.sj_text_core.specs.Tree.{Tree, null, boolean, int, text, list, obj, Items, no_items, item, items_len}
use Rattle.sj_text_core.specs.Find.{nth, nth_item}
use Rattle.sj_text_core.specs.Same.{Same}
use Rattle.sj_text_core.specs.Edits.{put, cut}
use Rattle.sj_text_core.specs.Places.{position_of}
use Rattle.sj_text_core.specs.Paths.{by_token, set_item, set_placed, set_found, change_found}
use Rattle.sj_text_core.specs.declared.repeats.Repeats.TheVariants.{First}
use Rattle.sj_text_core.proofs.Equality.{same-refl}
use Rattle.sj_text_core.proofs.Writes.{tree_at-set, set_at-twice}
use Rattle.sj_pointer.specs.Pointed.{path_of, token_into, pointed, set_pointed}
use Rattle.sj_document.specs.Items.{insert_at, remove_at}
use Rattle.sj_patch.specs.Patch.{or_missing, onwards, within, up_to, place_among, added_at, added_in, removed_at, removed_in, added, removed}
use Rattle.sj_patch.proofs.Local.{back, set_pointed-join, added-below, removed-below}
use Rattle.sj_patch.proofs.SameEdits.{same-put_cut, same-set_pointed}
use Rattle.sj_text_core.specs.declared.patch_fault.OperationFault.TheVariants.{Missing}

-- items
pub insert-remove : (i : ℕ) (v u : Tree) (is : Items) → nth_item i is ≡ Some u → insert_at i v (remove_at i is) ≡ set_item i v is
insert-remove i v u no_items e = cc
insert-remove zero v u (item t no_items) e = refl
insert-remove zero v u (item t (item x is)) e = refl
insert-remove (suc i) v u (item t is) e = ap (item t) (insert-remove i v u is e)

fits : (i : ℕ) (u : Tree) (is : Items) → nth_item i is ≡ Some u → i ≤ items_len (remove_at i is)
fits i u no_items e = cc
fits zero u (item t is) e = omega arith
fits (suc i) u (item t is) e = let h = fits i u is e in omega (arith, h)

among_by : (b : Bool) (n i : ℕ) (k : List ℕ) → bytes_eq k (45 ∷ []) ≡ b → position_of k ≡ Some i → i ≤ n → (if b then Some n else up_to n (position_of k)) ≡ Some i
among_by true n i k g e h = let f : position_of (45 ∷ []) ≡ Some i = ap position_of (sym ((bytes_eq-Decides k (45 ∷ [])).0 g)) ∙ e in let x : None ≡ Some i = f in cc
among_by false n i k g e h = ap (up_to n) e ∙ ap (λ b. if b then Some i else None) (le-leb i n h)

-- a position up to the number of items is one that an item can go to
pub among : (n i : ℕ) (k : List ℕ) → position_of k ≡ Some i → i ≤ n → place_among n k ≡ Some i
among n i k e h = among_by (bytes_eq k (45 ∷ [])) n i k refl e h

-- what stands at the token is removed, and v added there
abbrev Renews : List ℕ → Tree → Tree → Type 0
Renews k v t = (w : Tree) × (x : Tree) × (removed_in k t ≡ Ok w) × (added_in v k w ≡ Ok x) × Same (set_found (by_token k) v t) x

renews_item : (k : List ℕ) (v u : Tree) (is : Items) (o : Option ℕ) → position_of k ≡ o → option_and_then (λ i. nth i (list is)) o ≡ Some u → Renews k v (list is)
renews_item k v u is None p e = cc
renews_item k v u is (Some i) p e = (
  list (remove_at i is),
  list (set_item i v is),
  ap (λ o. or_missing (removed_at o is)) p ∙ ap (λ o. or_missing (option_map (λ _. list (remove_at i is)) o)) e,
  ap (λ o. added_at o v (remove_at i is)) (among (items_len (remove_at i is)) i k p (fits i u is e)) ∙ ap (λ is. Ok (list is)) (insert-remove i v u is e),
  subst (λ t. Same (set_found (by_token k) v (list is)) t) (ap (λ o. list (set_placed o v is)) p) (same-refl (set_found (by_token k) v (list is))),
)

renews : (k : List ℕ) (v u t : Tree) → token_into First k t ≡ Some u → Renews k v t
renews k v u null e = cc
renews k v u (boolean b) e = cc
renews k v u (int n c) e = cc
renews k v u (text s) e = cc
renews k v u (list is) e = renews_item k v u is (position_of k) refl e
renews k v u (obj ms) e = (obj (cut k ms), obj (put k v (cut k ms)), ap (λ o. or_missing (option_map (λ _. obj (cut k ms)) o)) e, refl, same-put_cut k v ms)

-- the same at a pointer
abbrev RenewsAt : List (List ℕ) → Tree → Tree → Type 0
RenewsAt ks v t = (w : Tree) × (x : Tree) × (removed ks t ≡ Ok w) × (added ks v w ≡ Ok x) × Same (set_pointed ks v t) x

one_token : (o : Option Tree) (u : Tree) → option_and_then (pointed []) o ≡ Some u → o ≡ Some u
one_token None u e = cc
one_token (Some x) u e = e

further : (k l : List ℕ) (ks : List (List ℕ)) (v y t : Tree) → token_into First k t ≡ Some y → RenewsAt (l ∷ ks) v y → RenewsAt (k ∷ l ∷ ks) v t
further k l ks v y t e h =
    let f : pointed (k ∷ []) t ≡ Some y = ap (option_and_then (pointed [])) e in
    let w = set_pointed (k ∷ []) h.0 t in
    let x = set_pointed (k ∷ []) h.1 t in (
      w,
      x,
      removed-below (k ∷ []) l ks t y f ∙ ap (λ r. onwards r (back (k ∷ []) t)) h.2,
      added-below (k ∷ []) l ks v w h.0 (tree_at-set (path_of (k ∷ [])) h.0 y t f) ∙ ap (λ r. onwards r (back (k ∷ []) w)) h.3 ∙ ap Ok (set_at-twice (path_of (k ∷ [])) h.1 h.0 t),
      subst (λ s. Same s x) (sym (set_pointed-join (k ∷ []) (l ∷ ks) v t y f)) (same-set_pointed (k ∷ []) (set_pointed (l ∷ ks) v y) h.1 t t h.4 (same-refl t)),
    )

further_by : (k l : List ℕ) (ks : List (List ℕ)) (v u t : Tree) (o : Option Tree) → token_into First k t ≡ o → option_and_then (pointed (l ∷ ks)) o ≡ Some u → ((y : Tree) → pointed (l ∷ ks) y ≡ Some u → RenewsAt (l ∷ ks) v y) → RenewsAt (k ∷ l ∷ ks) v t
further_by k l ks v u t None g e ih = cc
further_by k l ks v u t (Some y) g e ih = further k l ks v y t g (ih y e)

pub renews-at : (k : List ℕ) (ks : List (List ℕ)) (v u t : Tree) → pointed (k ∷ ks) t ≡ Some u → RenewsAt (k ∷ ks) v t
renews-at k [] v u t e =
    let f = one_token (token_into First k t) u e in
    let h = renews k v u t f in
    (h.0, h.1, h.2, h.3, subst (λ s. Same s h.1) (ap (λ o. change_found o (by_token k) (set_pointed [] v) t) (sym f)) h.4)
renews-at k (l ∷ ks) v u t e = further_by k l ks v u t (token_into First k t) refl e (λ y g. renews-at l ks v u y g)

-- what does not stand there is not removed
no_token : (o : Option Tree) → option_and_then (pointed []) o ≡ None → o ≡ None
no_token None e = refl
no_token (Some x) e = cc

not_removed_item : (o : Option ℕ) (is : Items) → option_and_then (λ i. nth i (list is)) o ≡ None → or_missing (removed_at o is) ≡ Err Missing
not_removed_item None is e = refl
not_removed_item (Some i) is e = ap (λ o. or_missing (option_map (λ _. list (remove_at i is)) o)) e

not_removed_in : (k : List ℕ) (t : Tree) → token_into First k t ≡ None → removed_in k t ≡ Err Missing
not_removed_in k null e = refl
not_removed_in k (boolean b) e = refl
not_removed_in k (int n c) e = refl
not_removed_in k (text s) e = refl
not_removed_in k (list is) e = not_removed_item (position_of k) is e
not_removed_in k (obj ms) e = ap (λ o. or_missing (option_map (λ _. obj (cut k ms)) o)) e

not_further : (k l : List ℕ) (ks : List (List ℕ)) (t : Tree) (o : Option Tree) → option_and_then (pointed (l ∷ ks)) o ≡ None → ((y : Tree) → pointed (l ∷ ks) y ≡ None → within removed_in l ks y ≡ Err Missing)
    → onwards (or_missing o) (λ u. onwards (within removed_in l ks u) (λ w. Ok (set_found (by_token k) w t))) ≡ Err Missing
not_further k l ks t None e ih = refl
not_further k l ks t (Some y) e ih = ap (λ r. onwards r (λ w. Ok (set_found (by_token k) w t))) (ih y e)

pub not-removed : (k : List ℕ) (ks : List (List ℕ)) (t : Tree) → pointed (k ∷ ks) t ≡ None → removed (k ∷ ks) t ≡ Err Missing
not-removed k [] t e = not_removed_in k t (no_token (token_into First k t) e)
not-removed k (l ∷ ks) t e = not_further k l ks t (token_into First k t) e (λ y g. not-removed l ks y g)
