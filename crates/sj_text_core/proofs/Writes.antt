-- What is found after an edit, and what of two writes at one place counts.
use Rattle.std.proofs.Common.{◌≡◌, ◌≢◌, ℕ, zero, suc, Bool, true, false, List, [], ◌∷◌, ◌++◌, Option, Some, None, option_and_then, if◌then◌else◌, bytes_eq, refl, sym, ap, ◌∙◌}
use Rattle.std.proofs.lemmas.Slice.Eq.{bytes_eq-Decides}
use Rattle.std.proofs.lemmas.Option.{same_Some}
use Rattle.sj_text_core.specs.Tree.{Tree, null, boolean, int, text, list, obj, Items, no_items, item, items_len, Members, no_members, member}
use Rattle.sj_text_core.specs.Find.{find_member, nth, nth_item}
use Rattle.sj_text_core.specs.Keep.{HasSingle}
use Rattle.sj_text_core.specs.Edits.{put, cut, push, front, last}
use Rattle.sj_text_core.specs.Places.{position_of}
use Rattle.sj_text_core.specs.Paths.{Step, by_key, by_place, by_token, step_into, tree_at, set_item, set_placed, set_found, change_found, set_at}
use Rattle.sj_text_core.proofs.Last.{find-put}
use Rattle.sj_text_core.proofs.Paths.{found_same}
use Rattle.sj_text_core.proofs.Texts.{bytes_eq-self, ne_bytes_eq}

-- members
pub find-put_same : (k : List ℕ) (t : Tree) (ms : Members) → find_member k (put k t ms) ≡ Some t
find-put_same k t ms = find-put k k t ms ∙ (λ j. if bytes_eq-self k j then Some t else find_member k ms)

pub find-put_other : (k l : List ℕ) (t : Tree) (ms : Members) → k ≢ l → find_member k (put l t ms) ≡ find_member k ms
find-put_other k l t ms n = find-put k l t ms ∙ (λ j. if ne_bytes_eq k l n j then Some t else find_member k ms)

pub put-twice : (k : List ℕ) (u v : Tree) (ms : Members) → put k u (put k v ms) ≡ put k u ms
put-twice k u v no_members = λ j. if bytes_eq-self k j then member k u no_members else member k v (put k u no_members)
put-twice k u v (member l t ms) = by_test (bytes_eq k l) refl (put-twice k u v ms) where
  by_test : (b : Bool) → bytes_eq k l ≡ b → put k u (put k v ms) ≡ put k u ms → put k u (if b then member l v ms else member l t (put k v ms)) ≡ (if b then member l u ms else member l t (put k u ms))
  by_test true e h = λ j. if e j then member l u ms else member l v (put k u ms)
  by_test false e h = (λ j. if e j then member l u (put k v ms) else member l t (put k u (put k v ms))) ∙ ap (member l t) h

pub find-cut_same : (k : List ℕ) (ms : Members) → HasSingle ms → find_member k (cut k ms) ≡ None
find-cut_same k no_members s = refl
find-cut_same k (member l t ms) s = by_test (bytes_eq k l) refl (find-cut_same k ms s.2) where
  by_test : (b : Bool) → bytes_eq k l ≡ b → find_member k (cut k ms) ≡ None → find_member k (if b then ms else member l t (cut k ms)) ≡ None
  by_test true e h = ap (λ x. find_member x ms) ((bytes_eq-Decides k l).0 e) ∙ s.0
  by_test false e h = (λ j. if e j then Some t else find_member k (cut k ms)) ∙ h

pub find-cut_other : (k l : List ℕ) (ms : Members) → k ≢ l → find_member k (cut l ms) ≡ find_member k ms
find-cut_other k l no_members n = refl
find-cut_other k l (member m t ms) n = by_test (bytes_eq l m) refl (find-cut_other k l ms n) where
  by_test : (b : Bool) → bytes_eq l m ≡ b → find_member k (cut l ms) ≡ find_member k ms → find_member k (if b then ms else member m t (cut l ms)) ≡ (if bytes_eq k m then Some t else find_member k ms)
  by_test true e h = sym (λ j. if ne_bytes_eq k m (λ q. n (q ∙ sym ((bytes_eq-Decides l m).0 e))) j then Some t else find_member k ms)
  by_test false e h = λ j. if bytes_eq k m then Some t else h j

absent_by : (b : Bool) (k l : List ℕ) (t : Tree) (ms : Members) → (if b then Some t else find_member k ms) ≡ None → (find_member k ms ≡ None → cut k ms ≡ ms) → (if b then ms else member l t (cut k ms)) ≡ member l t ms
absent_by true k l t ms f ih = cc
absent_by false k l t ms f ih = ap (member l t) (ih f)

-- without the text nothing is cut
pub cut-absent : (k : List ℕ) (ms : Members) → find_member k ms ≡ None → cut k ms ≡ ms
cut-absent k no_members f = refl
cut-absent k (member l t ms) f = absent_by (bytes_eq k l) k l t ms f (cut-absent k ms)

-- items
pub last-push : (t : Tree) (is : Items) → last (push t is) ≡ Some t
last-push t no_items = refl
last-push t (item u no_items) = refl
last-push t (item u (item v is)) = last-push t (item v is)

pub front-push : (t : Tree) (is : Items) → front (push t is) ≡ is
front-push t no_items = refl
front-push t (item u no_items) = refl
front-push t (item u (item v is)) = ap (item u) (front-push t (item v is))

pub nth-push : (t : Tree) (is : Items) → nth_item (items_len is) (push t is) ≡ Some t
nth-push t no_items = refl
nth-push t (item u is) = nth-push t is

pub nth-set_item : (i : ℕ) (u w : Tree) (is : Items) → nth_item i is ≡ Some w → nth_item i (set_item i u is) ≡ Some u
nth-set_item i u w no_items e = cc
nth-set_item zero u w (item t is) e = refl
nth-set_item (suc i) u w (item t is) e = nth-set_item i u w is e

pub set_item-twice : (i : ℕ) (u v : Tree) (is : Items) → set_item i u (set_item i v is) ≡ set_item i u is
set_item-twice i u v no_items = refl
set_item-twice zero u v (item t is) = refl
set_item-twice (suc i) u v (item t is) = ap (item t) (set_item-twice i u v is)

placed_there : (o : Option ℕ) (u w : Tree) (is : Items) → option_and_then (λ i. nth i (list is)) o ≡ Some w → option_and_then (λ i. nth i (list (set_placed o u is))) o ≡ Some u
placed_there None u w is e = cc
placed_there (Some i) u w is e = nth-set_item i u w is e

placed_twice : (o : Option ℕ) (u v : Tree) (is : Items) → set_placed o u (set_placed o v is) ≡ set_placed o u is
placed_twice None u v is = refl
placed_twice (Some i) u v is = set_item-twice i u v is

-- one step: what was put there stands there
pub step_there : (s : Step) (u w t : Tree) → step_into s t ≡ Some w → step_into s (set_found s u t) ≡ Some u
step_there (by_key k) u w (obj ms) e = find-put_same k u ms
step_there (by_key k) u w null e = cc
step_there (by_key k) u w (boolean b) e = cc
step_there (by_key k) u w (int n c) e = cc
step_there (by_key k) u w (text x) e = cc
step_there (by_key k) u w (list is) e = cc
step_there (by_place i) u w (list is) e = nth-set_item i u w is e
step_there (by_place i) u w null e = cc
step_there (by_place i) u w (boolean b) e = cc
step_there (by_place i) u w (int n c) e = cc
step_there (by_place i) u w (text x) e = cc
step_there (by_place i) u w (obj ms) e = cc
step_there (by_token k) u w (list is) e = placed_there (position_of k) u w is e
step_there (by_token k) u w (obj ms) e = find-put_same k u ms
step_there (by_token k) u w null e = cc
step_there (by_token k) u w (boolean b) e = cc
step_there (by_token k) u w (int n c) e = cc
step_there (by_token k) u w (text x) e = cc

-- and of two the second counts
pub set_found-twice : (s : Step) (u v t : Tree) → set_found s u (set_found s v t) ≡ set_found s u t
set_found-twice (by_key k) u v (obj ms) = ap obj (put-twice k u v ms)
set_found-twice (by_key k) u v null = refl
set_found-twice (by_key k) u v (boolean b) = refl
set_found-twice (by_key k) u v (int n c) = refl
set_found-twice (by_key k) u v (text x) = refl
set_found-twice (by_key k) u v (list is) = refl
set_found-twice (by_place i) u v (list is) = ap list (set_item-twice i u v is)
set_found-twice (by_place i) u v null = refl
set_found-twice (by_place i) u v (boolean b) = refl
set_found-twice (by_place i) u v (int n c) = refl
set_found-twice (by_place i) u v (text x) = refl
set_found-twice (by_place i) u v (obj ms) = refl
set_found-twice (by_token k) u v (list is) = ap list (placed_twice (position_of k) u v is)
set_found-twice (by_token k) u v (obj ms) = ap obj (put-twice k u v ms)
set_found-twice (by_token k) u v null = refl
set_found-twice (by_token k) u v (boolean b) = refl
set_found-twice (by_token k) u v (int n c) = refl
set_found-twice (by_token k) u v (text x) = refl

module _ (s : Step) (p : List Step) (t : Tree) where
  set_further : (w u : Tree) → step_into s t ≡ Some w → set_at (s ∷ p) u t ≡ set_found s (set_at p u w) t
  set_further w u e = ap (λ o. change_found o s (set_at p u) t) e

  at_set_by : (o : Option Tree) → step_into s t ≡ o → (u w : Tree) → option_and_then (tree_at p) o ≡ Some w → ((x : Tree) → tree_at p x ≡ Some w → tree_at p (set_at p u x) ≡ Some u) → tree_at (s ∷ p) (set_at (s ∷ p) u t) ≡ Some u
  at_set_by None f u w e ih = cc
  at_set_by (Some x) f u w e ih =
      let y = set_at p u x in
      ap (tree_at (s ∷ p)) (set_further x u f) ∙ ap (option_and_then (tree_at p)) (step_there s y x t f) ∙ ih x e

  same_by : (o : Option Tree) → step_into s t ≡ o → (u : Tree) → option_and_then (tree_at p) o ≡ Some u → ((x : Tree) → tree_at p x ≡ Some u → set_at p u x ≡ x) → set_at (s ∷ p) u t ≡ t
  same_by None f u e ih = cc
  same_by (Some x) f u e ih = set_further x u f ∙ ap (λ y. set_found s y t) (ih x e) ∙ found_same s x t f

  missing_by : (o : Option Tree) → step_into s t ≡ o → (u : Tree) → option_and_then (tree_at p) o ≡ None → ((x : Tree) → tree_at p x ≡ None → set_at p u x ≡ x) → set_at (s ∷ p) u t ≡ t
  missing_by None f u e ih = ap (λ o. change_found o s (set_at p u) t) f
  missing_by (Some x) f u e ih = set_further x u f ∙ ap (λ y. set_found s y t) (ih x e) ∙ found_same s x t f

  twice_by : (o : Option Tree) → step_into s t ≡ o → (u v : Tree) → ((x : Tree) → set_at p u (set_at p v x) ≡ set_at p u x) → set_at (s ∷ p) u (set_at (s ∷ p) v t) ≡ set_at (s ∷ p) u t
  twice_by None f u v ih = ap (set_at (s ∷ p) u) (ap (λ o. change_found o s (set_at p v) t) f)
  twice_by (Some x) f u v ih =
      let y = set_at p v x in
      ap (set_at (s ∷ p) u) (set_further x v f) ∙ ap (λ o. change_found o s (set_at p u) (set_found s y t)) (step_there s y x t f) ∙ set_found-twice s (set_at p u y) y t
      ∙ ap (λ z. set_found s z t) (ih x) ∙ sym (set_further x u f)

-- what was set at a path is there
pub tree_at-set : (p : List Step) (u w t : Tree) → tree_at p t ≡ Some w → tree_at p (set_at p u t) ≡ Some u
tree_at-set [] u w t e = refl
tree_at-set (s ∷ p) u w t e = at_set_by s p t (step_into s t) refl u w e (λ x f. tree_at-set p u w x f)

-- what stands there, set there, changes nothing
pub set_at-same : (p : List Step) (u t : Tree) → tree_at p t ≡ Some u → set_at p u t ≡ t
set_at-same [] u t e = sym (same_Some t u e)
set_at-same (s ∷ p) u t e = same_by s p t (step_into s t) refl u e (λ x f. set_at-same p u x f)

-- where nothing stands, nothing is set
pub set_at-missing : (p : List Step) (u t : Tree) → tree_at p t ≡ None → set_at p u t ≡ t
set_at-missing [] u t e = cc
set_at-missing (s ∷ p) u t e = missing_by s p t (step_into s t) refl u e (λ x f. set_at-missing p u x f)

-- of two writes at one path the second counts
pub set_at-twice : (p : List Step) (u v t : Tree) → set_at p u (set_at p v t) ≡ set_at p u t
set_at-twice [] u v t = refl
set_at-twice (s ∷ p) u v t = twice_by s p t (step_into s t) refl u v (λ x. set_at-twice p u v x)

and_then-join : (p q : List Step) (o : Option Tree) → ((x : Tree) → tree_at (p ++ q) x ≡ option_and_then (tree_at q) (tree_at p x)) → option_and_then (tree_at (p ++ q)) o ≡ option_and_then (tree_at q) (option_and_then (tree_at p) o)
and_then-join p q None ih = refl
and_then-join p q (Some x) ih = ih x

-- a path and then another
pub tree_at-join : (p q : List Step) (t : Tree) → tree_at (p ++ q) t ≡ option_and_then (tree_at q) (tree_at p t)
tree_at-join [] q t = refl
tree_at-join (s ∷ p) q t = and_then-join p q (step_into s t) (λ x. tree_at-join p q x)

join_by : (s : Step) (p q : List Step) (u w t : Tree) (o : Option Tree) → step_into s t ≡ o → option_and_then (tree_at p) o ≡ Some w → ((x : Tree) → tree_at p x ≡ Some w → set_at (p ++ q) u x ≡ set_at p (set_at q u w) x) → set_at (s ∷ (p ++ q)) u t ≡ set_at (s ∷ p) (set_at q u w) t
join_by s p q u w t None f e ih = cc
join_by s p q u w t (Some x) f e ih = set_further s (p ++ q) t x u f ∙ ap (λ y. set_found s y t) (ih x e) ∙ sym (set_further s p t x (set_at q u w) f)

pub set_at-join : (p q : List Step) (u w t : Tree) → tree_at p t ≡ Some w → set_at (p ++ q) u t ≡ set_at p (set_at q u w) t
set_at-join [] q u w t e = ap (set_at q u) (same_Some t w e)
set_at-join (s ∷ p) q u w t e = join_by s p q u w t (step_into s t) refl e (λ x f. set_at-join p q u w x f)
