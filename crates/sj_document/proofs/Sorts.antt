-- A part of a tape and a document, sort by sort.
use Rattle.std.proofs.Common.{◌≡◌, ℕ, ◌≤◌, ◌↔◌, List, Bool, IsTrue, Some, None, refl, sym, ap, subst, ◌∙◌, arith, rules, bytes_eq}
use Rattle.std.proofs.lemmas.Slice.Eq.{bytes_eq-Decides}
use Rattle.sj_text_core.specs.Tree.{Tree, null, boolean, int, text, list, obj}
use Rattle.sj_text_core.specs.Reads.{as_text, as_items, as_members}
use Rattle.sj_text_core.specs.Repeats.{SameBy, by_first, keep_last}
use Rattle.sj_text_core.specs.Same.{Same}
use Rattle.sj_text_core.specs.Scalars.{static_tree}
use Rattle.sj_text_core.specs.declared.repeats.Repeats.{Repeats}
use Rattle.sj_text_core.specs.declared.repeats.Repeats.TheVariants.{First, Last}
use Rattle.sj_text_core.specs.declared.static_node.StaticNode.{StaticNode}
use Rattle.sj_text_core.specs.declared.static_node.StaticNode.TheVariants.{Null, Bool as Truth, I64, U64, I128, U128}
use Rattle.sj_tape.specs.Value.{as_scalar}
use Rattle.sj_tape.proofs.Sorts.{sort, same_sort, no_list, no_obj}
use Rattle.sj_document.specs.Document.{document_tree}
use Rattle.sj_document.specs.declared.value.Document.{String, the_lemmas}

static_sort : (s : StaticNode) → sort (static_tree s) ≤ 2
static_sort Null = omega arith
static_sort (Truth b) = omega arith
static_sort (I64 n) = omega arith
static_sort (U64 n) = omega arith
static_sort (I128 n) = omega arith
static_sort (U128 n) = omega arith

no_scalar : (t : Tree) → None ≡ as_scalar t → sort t ≤ 2 → ⊥
no_scalar null n e = cc
no_scalar (boolean b) n e = cc
no_scalar (int m c) n e = cc
no_scalar (text s) n e = omega arith
no_scalar (list is) n e = omega arith
no_scalar (obj ms) n e = omega arith

no_text : (t : Tree) → None ≡ as_text t → sort t ≡ 3 → ⊥
no_text null n e = omega arith
no_text (boolean b) n e = omega arith
no_text (int m c) n e = omega arith
no_text (text s) n e = cc
no_text (list is) n e = omega arith
no_text (obj ms) n e = omega arith

-- a tree v of the sort of t is not the same as one of a sort that t has not
module _ (t v u : Tree) (like : sort v ≡ sort t) where
  pub unlike_static : None ≡ as_scalar t → (s : StaticNode) → u ≡ static_tree s → Same v u → ⊥
  unlike_static n s e h = no_scalar t n (omega (arith, static_sort s, like, same_sort v u h, ap sort e))

  pub unlike_text : None ≡ as_text t → (s : List ℕ) → u ≡ text s → Same v u → ⊥
  unlike_text n s e h = no_text t n (sym like ∙ same_sort v u h ∙ ap sort e)

  pub unlike_list : None ≡ as_items t → (is : _) → u ≡ list is → Same v u → ⊥
  unlike_list n is e h = no_list t n (sym like ∙ same_sort v u h ∙ ap sort e)

  pub unlike_obj : None ≡ as_members t → (ms : _) → u ≡ obj ms → Same v u → ⊥
  unlike_obj n ms e h = no_obj t n (sym like ∙ same_sort v u h ∙ ap sort e)

pub text_is : (t : Tree) (s : List ℕ) → Some s ≡ as_text t → t ≡ text s
text_is null s e = cc
text_is (boolean b) s e = cc
text_is (int n c) s e = cc
text_is (text r) s e = cc
text_is (list is) s e = cc
text_is (obj ms) s e = cc

pub same_text : (s r : List ℕ) (b : Bool) → b ≡ bytes_eq s r → IsTrue b ↔ Same (text s) (text r)
same_text s r b e = (λ f. ap text (sym ((bytes_eq-Decides s r).0 (sym e ∙ f))), λ h. e ∙ (bytes_eq-Decides s r).1 (let i : s ≡ r = cc in i))

pub tree-String : {T : Type 0} (t : T → List ℕ) (s : T) → document_tree t (String s) ≡ text (t s)
tree-String t s = search (rules, the_lemmas)

-- a scalar has no texts to keep
keep_static : (s : StaticNode) → keep_last (static_tree s) ≡ static_tree s
keep_static Null = refl
keep_static (Truth b) = refl
keep_static (I64 n) = refl
keep_static (U64 n) = refl
keep_static (I128 n) = refl
keep_static (U128 n) = refl

static_by : (c : Repeats) (s : StaticNode) → by_first c (static_tree s) ≡ static_tree s
static_by First s = refl
static_by Last s = keep_static s

text_by : (c : Repeats) (s : List ℕ) → by_first c (text s) ≡ text s
text_by First s = refl
text_by Last s = refl

-- by either choice a scalar and a text are what they are: an answer that holds of them holds of what has them for trees
module _ (b : Bool) (c : Repeats) (t u : Tree) where
  pub by_static : (s r : StaticNode) → t ≡ static_tree s → u ≡ static_tree r → (IsTrue b ↔ Same (static_tree s) (static_tree r)) → IsTrue b ↔ SameBy c First t u
  by_static s r e f h =
      subst (λ v. IsTrue b ↔ SameBy c First v u) (sym e) (subst (λ w. IsTrue b ↔ SameBy c First (static_tree s) w) (sym f) (subst (λ v. IsTrue b ↔ Same v (static_tree r)) (sym (static_by c s)) h))

  pub by_text : (s r : List ℕ) → t ≡ text s → u ≡ text r → (IsTrue b ↔ Same (text s) (text r)) → IsTrue b ↔ SameBy c First t u
  by_text s r e f h =
      subst (λ v. IsTrue b ↔ SameBy c First v u) (sym e) (subst (λ w. IsTrue b ↔ SameBy c First (text s) w) (sym f) (subst (λ v. IsTrue b ↔ Same v (text r)) (sym (text_by c s)) h))
