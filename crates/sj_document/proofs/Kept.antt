-- Every document means a tree in which no object has two members of one text.
use Rattle.std.proofs.Common.{ℕ, List, [], ◌∷◌, map, refl, sym, ap, ◌∙◌, subst}
use Rattle.sj_text_core.specs.Tree.{Tree, obj, items_from}
use Rattle.sj_text_core.specs.Keep.{IsKept}
use Rattle.sj_text_core.specs.Scalars.{static_tree}
use Rattle.sj_text_core.specs.declared.static_node.StaticNode.{StaticNode}
use Rattle.sj_text_core.specs.declared.static_node.StaticNode.TheVariants.{Null, Bool, I64, U64, I128, U128}
use Rattle.sj_object.specs.Entries.{Entry}
use Rattle.sj_object.proofs.Shown.{entry_members-map}
use Rattle.sj_object.proofs.Kept.{AreKept, list_kept, object_kept}
use Rattle.sj_document.specs.Document.{document_level, document_tree}
use Rattle.sj_document.specs.declared.value.Document.{Document, ind-Document, fold-roll-Document}
use Rattle.sj_document.specs.declared.value.Document.TheOpen.{Document-F}
use Rattle.sj_document.specs.declared.value.Document.TheFolds.{map-Document}

static_kept : (s : StaticNode) → IsKept (static_tree s)
static_kept Null = refl
static_kept (Bool b) = refl
static_kept (I64 n) = refl
static_kept (U64 n) = refl
static_kept (I128 n) = refl
static_kept (U128 n) = refl

module _ {T : Type 0} (t : T → List ℕ) {X Y : Type 0} (f : Y → X) (g : X → Tree) (k : (y : Y) → IsKept (g (f y))) where
  items_kept : (ys : List Y) → AreKept (items_from (map g (map f ys)))
  items_kept [] = tt
  items_kept (y ∷ ys) = (k y, items_kept ys)

  level_kept : (y : Document-F T Y) → IsKept (document_level t (map-Document T X Tree g (map-Document T Y X f y)))
  level_kept (Document-F.Static s) = static_kept s
  level_kept (Document-F.String s) = refl
  level_kept (Document-F.Array v) = list_kept _ (items_kept v.value.items)
  level_kept (Document-F.Object m) =
      subst (λ ms. IsKept (obj ms)) (sym (entry_members-map g (λ u. u) (map (λ (e : Entry T Y). (e.0, f e.1)) m.value.entries) ∙ entry_members-map f g m.value.entries))
      (object_kept (λ y. g (f y)) k m.value)

pub tree_kept : {T : Type 0} (t : T → List ℕ) (v : Document T) → IsKept (document_tree t v)
tree_kept {T} t = ind-Document T (λ v. IsKept (document_tree t v)) (λ x y e. subst IsKept (ap (λ z. document_level t (map-Document T (Document T) Tree (document_tree t) z)) e ∙ sym (fold-roll-Document T Tree (document_level t) x)) (level_kept t (λ d. d.0) (document_tree t) (λ d. d.1) y))
