-- Trees that are the same are of one sort.
use Rattle.std.proofs.Common.{◌≡◌, ℕ, ◌≤◌, ◌↔◌, Bool, IsTrue, Some, None, refl, sym, ap, subst, ◌∙◌, arith}
use Rattle.sj_text_core.specs.Tree.{Tree, null, boolean, int, text, list, obj, Items, Members}
use Rattle.sj_text_core.specs.Reads.{as_items, as_members}
use Rattle.sj_text_core.specs.Repeats.{SameBy, by_first, keep_last}
use Rattle.sj_text_core.specs.Same.{Same}
use Rattle.sj_text_core.specs.declared.repeats.Repeats.{Repeats}
use Rattle.sj_text_core.specs.declared.repeats.Repeats.TheVariants.{First, Last}
use Rattle.sj_text_core.proofs.Shapes.{list_is, obj_is}

abbrev pub sort : Tree → ℕ
sort null = 0
sort (boolean b) = 1
sort (int n c) = 2
sort (text s) = 3
sort (list is) = 4
sort (obj ms) = 5

pub same_sort : (t u : Tree) → Same t u → sort t ≡ sort u
same_sort null u h = ap sort (sym h)
same_sort (boolean b) u h = ap sort (sym h)
same_sort (text s) u h = ap sort (sym h)
same_sort (int n c) null h = absurd h
same_sort (int n c) (boolean b) h = absurd h
same_sort (int n c) (int m d) h = refl
same_sort (int n c) (text s) h = absurd h
same_sort (int n c) (list is) h = absurd h
same_sort (int n c) (obj ms) h = absurd h
same_sort (list is) null h = absurd h
same_sort (list is) (boolean b) h = absurd h
same_sort (list is) (int n c) h = absurd h
same_sort (list is) (text s) h = absurd h
same_sort (list is) (list js) h = refl
same_sort (list is) (obj ms) h = absurd h
same_sort (obj ms) null h = absurd h
same_sort (obj ms) (boolean b) h = absurd h
same_sort (obj ms) (int n c) h = absurd h
same_sort (obj ms) (text s) h = absurd h
same_sort (obj ms) (list is) h = absurd h
same_sort (obj ms) (obj ns) h = refl

keep_sort : (t : Tree) → sort (keep_last t) ≡ sort t
keep_sort null = refl
keep_sort (boolean b) = refl
keep_sort (int n c) = refl
keep_sort (text s) = refl
keep_sort (list is) = refl
keep_sort (obj ms) = refl

-- by either choice a tree has its sort
pub sort_by : (c : Repeats) (t : Tree) → sort (by_first c t) ≡ sort t
sort_by First t = refl
sort_by Last t = keep_sort t

pub no_list : (t : Tree) → None ≡ as_items t → sort t ≡ 4 → ⊥
no_list null n e = omega arith
no_list (boolean b) n e = omega arith
no_list (int m c) n e = omega arith
no_list (text s) n e = omega arith
no_list (list is) n e = cc
no_list (obj ms) n e = omega arith

pub no_obj : (t : Tree) → None ≡ as_members t → sort t ≡ 5 → ⊥
no_obj null n e = omega arith
no_obj (boolean b) n e = omega arith
no_obj (int m c) n e = omega arith
no_obj (text s) n e = omega arith
no_obj (list is) n e = omega arith
no_obj (obj ms) n e = cc

leaf_sort : (t : Tree) → as_items t ≡ None → as_members t ≡ None → sort t ≤ 3
leaf_sort null e f = omega arith
leaf_sort (boolean b) e f = omega arith
leaf_sort (int n c) e f = omega arith
leaf_sort (text s) e f = omega arith
leaf_sort (list is) e f = cc
leaf_sort (obj ms) e f = cc

keep_leaf : (t : Tree) → sort t ≤ 3 → keep_last t ≡ t
keep_leaf null h = refl
keep_leaf (boolean b) h = refl
keep_leaf (int n c) h = refl
keep_leaf (text s) h = refl
keep_leaf (list is) h = absurd (omega (arith, h))
keep_leaf (obj ms) h = absurd (omega (arith, h))

leaf_is : (c : Repeats) (t : Tree) → sort t ≤ 3 → by_first c t ≡ t
leaf_is First t h = refl
leaf_is Last t h = keep_leaf t h

module _ (c d : Repeats) (t u : Tree) where
  both_sorts : SameBy c d t u → sort t ≡ sort u
  both_sorts h = sym (sort_by c t) ∙ same_sort (by_first c t) (by_first d u) h ∙ sort_by d u

  -- a leaf is what it is by either choice
  leaf_by : as_items t ≡ None → as_members t ≡ None → Same t u → SameBy c d t u
  leaf_by e f h =
      let s = leaf_sort t e f in
      subst (λ v. Same v (by_first d u)) (sym (leaf_is c t s)) (subst (λ v. Same t v) (sym (leaf_is d u (omega (arith, s, same_sort t u h)))) h)

  by_leaf : as_items t ≡ None → as_members t ≡ None → SameBy c d t u → Same t u
  by_leaf e f h =
      let s = leaf_sort t e f in
      subst (λ v. Same t v) (leaf_is d u (omega (arith, s, both_sorts h))) (subst (λ v. Same v (by_first d u)) (leaf_is c t s) h)

  -- an answer that tells whether leaves are the same tells it of them as parts
  pub leaves_same : (b : Bool) → as_items t ≡ None → as_members t ≡ None → (IsTrue b ↔ Same t u) → IsTrue b ↔ SameBy c d t u
  leaves_same b e f h = (λ x. leaf_by e f (h.0 x), λ y. h.1 (by_leaf e f y))

  -- and one that tells it of the same choices and trees
  pub as_same : (b : Bool) (e f : Repeats) (v w : Tree) → e ≡ c → f ≡ d → t ≡ v → u ≡ w → (IsTrue b ↔ SameBy e f v w) → IsTrue b ↔ SameBy c d t u
  as_same b e f v w p q x y h =
      subst (λ r. IsTrue b ↔ SameBy c d r u) (sym x) (subst (λ s. IsTrue b ↔ SameBy c d v s) (sym y)
      (subst (λ g. IsTrue b ↔ SameBy g d v w) p (subst (λ g. IsTrue b ↔ SameBy e g v w) q h)))

  -- an array and what is none, an object and what is none
  pub unlike_items : (is : Items) → Some is ≡ as_items t → None ≡ as_items u → SameBy c d t u → ⊥
  unlike_items is e n h = no_list u n (sym (both_sorts h) ∙ ap sort (list_is t is e))

  pub unlike_members : (ms : Members) → Some ms ≡ as_members t → None ≡ as_members u → SameBy c d t u → ⊥
  unlike_members ms e n h = no_obj u n (sym (both_sorts h) ∙ ap sort (obj_is t ms e))
