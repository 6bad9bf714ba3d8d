-- Edits of trees that are the same leave trees that are the same.
use Rattle.std.proofs.Common.{◌≡◌, ℕ, zero, suc, ℤ, Bool, true, false, List, [], ◌∷◌, Option, Some, None, option_and_then, if◌then◌else◌, bytes_eq, refl, sym, ap, ◌∙◌, subst}
use Rattle.std.proofs.lemmas.Slice.Eq.{bytes_eq-Decides}
use Rattle.sj_text_core.specs.Tree.{Tree, Carrier, null, boolean, int, text, list, obj, Items, no_items, item, Members}
use Rattle.sj_text_core.specs.Find.{find_member, nth, nth_item}
use Rattle.sj_text_core.specs.Same.{Same, SameItems}
use Rattle.sj_text_core.specs.inner.Agree.{SameFound}
use Rattle.sj_text_core.specs.Keep.{HasSingle}
use Rattle.sj_text_core.specs.Edits.{put, cut}
use Rattle.sj_text_core.specs.Places.{position_of}
use Rattle.sj_text_core.specs.Paths.{by_token, set_item, set_placed, set_found, change_found}
use Rattle.sj_text_core.specs.declared.repeats.Repeats.TheVariants.{First}
use Rattle.sj_text_core.proofs.Equality.{found_from_at, at_from_found, same-refl}
use Rattle.sj_text_core.proofs.Last.{find-put}
use Rattle.sj_text_core.proofs.Writes.{find-cut_same, find-cut_other}
use Rattle.sj_pointer.specs.Pointed.{token_into, pointed, set_pointed}
use Rattle.sj_document.specs.Items.{insert_at, remove_at}

-- what holds of each two trees of one shape holds of trees that are the same
module _ (P : Tree → Tree → Type 0) (nulls : P null null) (booleans : (b : Bool) → P (boolean b) (boolean b)) (ints : (n m : ℤ) (c d : Carrier) → n ≡ m → P (int n c) (int m d)) (texts : (s : List ℕ) → P (text s) (text s))
    (lists : (is js : Items) → SameItems is js → P (list is) (list js)) (objs : (ms ns : Members) → Same (obj ms) (obj ns) → P (obj ms) (obj ns)) where
  pub by_same : (t u : Tree) → Same t u → P t u
  by_same null u h = subst (P null) (sym h) nulls
  by_same (boolean b) u h = subst (P (boolean b)) (sym h) (booleans b)
  by_same (text s) u h = subst (P (text s)) (sym h) (texts s)
  by_same (int n c) (int m d) h = ints n m c d h
  by_same (list is) (list js) h = lists is js h
  by_same (obj ms) (obj ns) h = objs ms ns h
  by_same (int n c) null h = absurd h
  by_same (int n c) (boolean b) h = absurd h
  by_same (int n c) (text s) h = absurd h
  by_same (int n c) (list is) h = absurd h
  by_same (int n c) (obj ms) h = absurd h
  by_same (list is) null h = absurd h
  by_same (list is) (boolean b) h = absurd h
  by_same (list is) (int n c) h = absurd h
  by_same (list is) (text s) h = absurd h
  by_same (list is) (obj ms) h = absurd h
  by_same (obj ms) null h = absurd h
  by_same (obj ms) (boolean b) h = absurd h
  by_same (obj ms) (int n c) h = absurd h
  by_same (obj ms) (text s) h = absurd h
  by_same (obj ms) (list is) h = absurd h

-- members
pub found-same : (ms ns : Members) → Same (obj ms) (obj ns) → (k : List ℕ) → SameFound (find_member k ms) (find_member k ns)
found-same ms ns h k = found_from_at k ms (find_member k ns) (h k)

pub same-found : (ms ns : Members) → ((k : List ℕ) → SameFound (find_member k ms) (find_member k ns)) → Same (obj ms) (obj ns)
same-found ms ns h = λ k. at_from_found k ms (find_member k ns) (h k)

pub same_found-refl : (o : Option Tree) → SameFound o o
same_found-refl None = refl
same_found-refl (Some t) = same-refl t

same_found-as : (f f' g g' : Option Tree) → f ≡ f' → g ≡ g' → SameFound f' g' → SameFound f g
same_found-as f f' g g' d e h = subst (λ x. SameFound x g) (sym d) (subst (λ x. SameFound f' x) (sym e) h)

there_by : (b : Bool) (t u : Tree) (f g : Option Tree) → Same t u → SameFound f g → SameFound (if b then Some t else f) (if b then Some u else g)
there_by true t u f g s h = s
there_by false t u f g s h = h

pub same-put : (k : List ℕ) (t u : Tree) (ms ns : Members) → Same t u → Same (obj ms) (obj ns) → Same (obj (put k t ms)) (obj (put k u ns))
same-put k t u ms ns s h = same-found (put k t ms) (put k u ns) (λ l. same_found-as _ _ _ _ (find-put l k t ms) (find-put l k u ns) (there_by (bytes_eq l k) t u (find_member l ms) (find_member l ns) s (found-same ms ns h l)))

find-cut : (l k : List ℕ) (ms : Members) → HasSingle ms → find_member l (cut k ms) ≡ (if bytes_eq l k then None else find_member l ms)
find-cut l k ms s = by_test (bytes_eq l k) refl where
  by_test : (b : Bool) → bytes_eq l k ≡ b → find_member l (cut k ms) ≡ (if b then None else find_member l ms)
  by_test true e = ap (λ x. find_member x (cut k ms)) ((bytes_eq-Decides l k).0 e) ∙ find-cut_same k ms s
  by_test false e = find-cut_other l k ms (λ q. differs (sym e ∙ (bytes_eq-Decides l k).1 q)) where
    differs : false ≡ true → ⊥
    differs q = cc

gone_by : (b : Bool) (f g : Option Tree) → SameFound f g → SameFound (if b then None else f) (if b then None else g)
gone_by true f g h = refl
gone_by false f g h = h

-- where a text names two members, a cut shows the second
pub same-cut : (k : List ℕ) (ms ns : Members) → HasSingle ms → HasSingle ns → Same (obj ms) (obj ns) → Same (obj (cut k ms)) (obj (cut k ns))
same-cut k ms ns x y h = same-found (cut k ms) (cut k ns) (λ l. same_found-as _ _ _ _ (find-cut l k ms x) (find-cut l k ns y) (gone_by (bytes_eq l k) (find_member l ms) (find_member l ns) (found-same ms ns h l)))

again_by : (b : Bool) (l k : List ℕ) (v : Tree) (ms : Members) → bytes_eq l k ≡ b → SameFound (if b then Some v else find_member l ms) (if b then Some v else find_member l (cut k ms))
again_by true l k v ms e = same-refl v
again_by false l k v ms e = subst (SameFound (find_member l ms)) (sym (find-cut_other l k ms (λ q. differs (sym e ∙ (bytes_eq-Decides l k).1 q)))) (same_found-refl (find_member l ms)) where
  differs : false ≡ true → ⊥
  differs q = cc

-- a member cut and put again goes last
pub same-put_cut : (k : List ℕ) (v : Tree) (ms : Members) → Same (obj (put k v ms)) (obj (put k v (cut k ms)))
same-put_cut k v ms = same-found (put k v ms) (put k v (cut k ms)) (λ l. same_found-as _ _ _ _ (find-put l k v ms) (find-put l k v (cut k ms)) (again_by (bytes_eq l k) l k v ms refl))

-- items
pub same-insert_at : (i : ℕ) (t u : Tree) (is js : Items) → Same t u → SameItems is js → SameItems (insert_at i t is) (insert_at i u js)
same-insert_at i t u no_items js s h = subst (λ js. SameItems (item t no_items) (insert_at i u js)) (sym h) (s, refl)
same-insert_at i t u (item x is) no_items s h = absurd h
same-insert_at zero t u (item x is) (item y js) s h = (s, h)
same-insert_at (suc i) t u (item x is) (item y js) s h = (h.0, same-insert_at i t u is js s h.1)

pub same-remove_at : (i : ℕ) (is js : Items) → SameItems is js → SameItems (remove_at i is) (remove_at i js)
same-remove_at i no_items js h = ap (remove_at i) h
same-remove_at i (item x is) no_items h = absurd h
same-remove_at zero (item x is) (item y js) h = h.1
same-remove_at (suc i) (item x is) (item y js) h = (h.0, same-remove_at i is js h.1)

pub same-set_item : (i : ℕ) (t u : Tree) (is js : Items) → Same t u → SameItems is js → SameItems (set_item i t is) (set_item i u js)
same-set_item i t u no_items js s h = ap (set_item i u) h
same-set_item i t u (item x is) no_items s h = absurd h
same-set_item zero t u (item x is) (item y js) s h = (s, h.1)
same-set_item (suc i) t u (item x is) (item y js) s h = (h.0, same-set_item i t u is js s h.1)

pub same-nth_item : (i : ℕ) (is js : Items) → SameItems is js → SameFound (nth_item i is) (nth_item i js)
same-nth_item i no_items js h = ap (nth_item i) h
same-nth_item i (item x is) no_items h = absurd h
same-nth_item zero (item x is) (item y js) h = h.0
same-nth_item (suc i) (item x is) (item y js) h = same-nth_item i is js h.1

-- at a token
found_placed : (o : Option ℕ) (is js : Items) → SameItems is js → SameFound (option_and_then (λ i. nth i (list is)) o) (option_and_then (λ i. nth i (list js)) o)
found_placed None is js h = refl
found_placed (Some i) is js h = same-nth_item i is js h

pub same-token : (k : List ℕ) (t u : Tree) → Same t u → SameFound (token_into First k t) (token_into First k u)
same-token k t u h = by_same (λ t u. SameFound (token_into First k t) (token_into First k u)) refl (λ b. refl) (λ n m c d e. refl) (λ s. refl) (λ is js s. found_placed (position_of k) is js s) (λ ms ns s. found-same ms ns s k) t u h

set_placed_by : (o : Option ℕ) (v w : Tree) (is js : Items) → Same v w → SameItems is js → SameItems (set_placed o v is) (set_placed o w js)
set_placed_by None v w is js s h = h
set_placed_by (Some i) v w is js s h = same-set_item i v w is js s h

pub same-set_found : (k : List ℕ) (v w t u : Tree) → Same v w → Same t u → Same (set_found (by_token k) v t) (set_found (by_token k) w u)
same-set_found k v w t u s h = by_same (λ t u. Same (set_found (by_token k) v t) (set_found (by_token k) w u)) refl (λ b. refl) (λ n m c d e. e) (λ x. refl) (λ is js g. set_placed_by (position_of k) v w is js s g) (λ ms ns g. same-put k v w ms ns s g) t u h

-- at a pointer
further_by : (ks : List (List ℕ)) (o p : Option Tree) → SameFound o p → ((x y : Tree) → Same x y → SameFound (pointed ks x) (pointed ks y)) → SameFound (option_and_then (pointed ks) o) (option_and_then (pointed ks) p)
further_by ks None None h ih = refl
further_by ks None (Some y) h ih = cc
further_by ks (Some x) None h ih = absurd h
further_by ks (Some x) (Some y) h ih = ih x y h

pub same-pointed : (ks : List (List ℕ)) (t u : Tree) → Same t u → SameFound (pointed ks t) (pointed ks u)
same-pointed [] t u h = h
same-pointed (k ∷ ks) t u h = further_by ks (token_into First k t) (token_into First k u) (same-token k t u h) (λ x y s. same-pointed ks x y s)

set_by : (k : List ℕ) (ks : List (List ℕ)) (v w t u : Tree) (o p : Option Tree) → SameFound o p → Same t u → ((x y : Tree) → Same x y → Same (set_pointed ks v x) (set_pointed ks w y))
    → Same (change_found o (by_token k) (set_pointed ks v) t) (change_found p (by_token k) (set_pointed ks w) u)
set_by k ks v w t u None None h s ih = s
set_by k ks v w t u None (Some y) h s ih = cc
set_by k ks v w t u (Some x) None h s ih = absurd h
set_by k ks v w t u (Some x) (Some y) h s ih = same-set_found k (set_pointed ks v x) (set_pointed ks w y) t u (ih x y h) s

pub same-set_pointed : (ks : List (List ℕ)) (v w t u : Tree) → Same v w → Same t u → Same (set_pointed ks v t) (set_pointed ks w u)
same-set_pointed [] v w t u s h = s
same-set_pointed (k ∷ ks) v w t u s h = set_by k ks v w t u (token_into First k t) (token_into First k u) (same-token k t u h) h (λ x y g. same-set_pointed ks v w x y s g)
