-- Edits of trees in which each text names one member leave such trees.
use Rattle.std.proofs.Common.{◌≡◌, ℕ, zero, suc, Bool, true, false, List, [], ◌∷◌, Option, Some, None, option_and_then, if◌then◌else◌, bytes_eq, refl, sym, ◌∙◌}
use Rattle.std.proofs.lemmas.Slice.Eq.{bytes_eq-Decides}
use Rattle.sj_text_core.specs.Tree.{Tree, null, boolean, int, text, list, obj, Items, no_items, item, Members, no_members, member}
use Rattle.sj_text_core.specs.Find.{nth, nth_item}
use Rattle.sj_text_core.specs.Keep.{IsSingle, AreSingle, HasSingle}
use Rattle.sj_text_core.specs.Edits.{cut}
use Rattle.sj_text_core.specs.Places.{position_of}
use Rattle.sj_text_core.specs.Paths.{by_token, set_item, set_placed, set_found, change_found}
use Rattle.sj_text_core.specs.declared.repeats.Repeats.TheVariants.{First}
use Rattle.sj_text_core.proofs.Single.{SingleFound, single-put, single-member}
use Rattle.sj_text_core.proofs.Writes.{find-cut_other}
use Rattle.sj_pointer.specs.Pointed.{token_into, pointed, set_pointed}
use Rattle.sj_document.specs.Items.{insert_at, remove_at}

-- members
cut_by : (b : Bool) (k l : List ℕ) (u : Tree) (ms : Members) → bytes_eq k l ≡ b → HasSingle (member l u ms) → HasSingle (cut k ms) → HasSingle (if b then ms else member l u (cut k ms))
cut_by true k l u ms e h rest = h.2
cut_by false k l u ms e h rest = (find-cut_other l k ms (λ q. differs (sym e ∙ (bytes_eq-Decides k l).1 (sym q))) ∙ h.0, h.1, rest) where
  differs : false ≡ true → ⊥
  differs q = cc

pub single-cut : (k : List ℕ) (ms : Members) → HasSingle ms → HasSingle (cut k ms)
single-cut k no_members h = tt
single-cut k (member l u ms) h = cut_by (bytes_eq k l) k l u ms refl h (single-cut k ms h.2)

-- items
pub single-insert_at : (i : ℕ) (t : Tree) (is : Items) → IsSingle t → AreSingle is → AreSingle (insert_at i t is)
single-insert_at i t no_items s h = (s, tt)
single-insert_at zero t (item x is) s h = (s, h)
single-insert_at (suc i) t (item x is) s h = (h.0, single-insert_at i t is s h.1)

pub single-remove_at : (i : ℕ) (is : Items) → AreSingle is → AreSingle (remove_at i is)
single-remove_at i no_items h = tt
single-remove_at zero (item x is) h = h.1
single-remove_at (suc i) (item x is) h = (h.0, single-remove_at i is h.1)

pub single-set_item : (i : ℕ) (t : Tree) (is : Items) → IsSingle t → AreSingle is → AreSingle (set_item i t is)
single-set_item i t no_items s h = tt
single-set_item zero t (item x is) s h = (s, h.1)
single-set_item (suc i) t (item x is) s h = (h.0, single-set_item i t is s h.1)

pub single-nth_item : (i : ℕ) (is : Items) → AreSingle is → SingleFound (nth_item i is)
single-nth_item i no_items h = tt
single-nth_item zero (item x is) h = h.0
single-nth_item (suc i) (item x is) h = single-nth_item i is h.1

-- at a token
placed_found : (o : Option ℕ) (is : Items) → AreSingle is → SingleFound (option_and_then (λ i. nth i (list is)) o)
placed_found None is h = tt
placed_found (Some i) is h = single-nth_item i is h

pub single-token : (k : List ℕ) (t : Tree) → IsSingle t → SingleFound (token_into First k t)
single-token k null h = tt
single-token k (boolean b) h = tt
single-token k (int n c) h = tt
single-token k (text s) h = tt
single-token k (list is) h = placed_found (position_of k) is h
single-token k (obj ms) h = single-member k ms h

placed_set : (o : Option ℕ) (v : Tree) (is : Items) → IsSingle v → AreSingle is → AreSingle (set_placed o v is)
placed_set None v is s h = h
placed_set (Some i) v is s h = single-set_item i v is s h

pub single-set_found : (k : List ℕ) (v t : Tree) → IsSingle v → IsSingle t → IsSingle (set_found (by_token k) v t)
single-set_found k v null s h = tt
single-set_found k v (boolean b) s h = tt
single-set_found k v (int n c) s h = tt
single-set_found k v (text x) s h = tt
single-set_found k v (list is) s h = placed_set (position_of k) v is s h
single-set_found k v (obj ms) s h = single-put k v ms s h

-- at a pointer
further_by : (ks : List (List ℕ)) (o : Option Tree) → SingleFound o → ((x : Tree) → IsSingle x → SingleFound (pointed ks x)) → SingleFound (option_and_then (pointed ks) o)
further_by ks None h ih = tt
further_by ks (Some x) h ih = ih x h

pub single-pointed : (ks : List (List ℕ)) (t : Tree) → IsSingle t → SingleFound (pointed ks t)
single-pointed [] t h = h
single-pointed (k ∷ ks) t h = further_by ks (token_into First k t) (single-token k t h) (λ x s. single-pointed ks x s)

set_by : (k : List ℕ) (ks : List (List ℕ)) (v t : Tree) (o : Option Tree) → SingleFound o → IsSingle t → ((x : Tree) → IsSingle x → IsSingle (set_pointed ks v x)) → IsSingle (change_found o (by_token k) (set_pointed ks v) t)
set_by k ks v t None h s ih = s
set_by k ks v t (Some x) h s ih = single-set_found k (set_pointed ks v x) t (ih x h) s

pub single-set_pointed : (ks : List (List ℕ)) (v t : Tree) → IsSingle v → IsSingle t → IsSingle (set_pointed ks v t)
single-set_pointed [] v t s h = s
single-set_pointed (k ∷ ks) v t s h = set_by k ks v t (token_into First k t) (single-token k t h) h (λ x g. single-set_pointed ks v x s g)
