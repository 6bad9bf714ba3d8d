-- What is noted in turn.
use Rattle.std.proofs.Common.{◌≡◌, ℕ, List, [], ◌∷◌, ◌++◌, map, append_assoc, append-nil, refl, sym, ap, ◌∙◌, subst}
use Rattle.std.proofs.lemmas.List.{map-append}
use Rattle.sj_text_core.specs.Tree.{Tree, obj}
use Rattle.sj_text_core.specs.Same.{Same}
use Rattle.sj_text_core.specs.Keep.{IsSingle}
use Rattle.sj_text_core.proofs.Single.{single-kept}
use Rattle.sj_object.specs.HashMap.{Contents}
use Rattle.sj_object.specs.Members.{entry_members}
use Rattle.sj_object.proofs.Kept.{object_kept}
use Rattle.sj_document.specs.Document.{document_tree}
use Rattle.sj_document.specs.declared.value.Document.{Document}
use Rattle.sj_document.proofs.Kept.{tree_kept}
use Rattle.sj_patch.specs.Patch.{PlainOperation, replace}
use Rattle.sj_patch.specs.Locality.{under}
use Rattle.sj_patch.specs.Diff.{Becomes}
use Rattle.sj_patch.specs.inner.Noted.{Leads, Notes, array}
use Rattle.sj_patch.proofs.Leading.{leads-same, leads-whole, under-join, under-nothing, under-whole}

-- documents mean trees in which no text names two members
module _ {T : Type 0} (t : T → List ℕ) where
  pub single-tree : (v : Document T) → IsSingle (document_tree t v)
  single-tree v = single-kept (document_tree t v) (tree_kept t v)

  pub single-array : (vs : List (Document T)) → IsSingle (array (map (document_tree t) vs))
  single-array [] = tt
  single-array (v ∷ vs) = (single-tree v, single-array vs)

  pub single-object : {S : Type 0} (m : Contents T (Document T) S) → IsSingle (obj (entry_members (document_tree t) m.entries))
  single-object m = single-kept _ (object_kept (document_tree t) (tree_kept t) m)

module _ (place : List (List ℕ)) (before : List PlainOperation) where
  -- nothing
  pub notes-nothing : (t u v : Tree) → IsSingle t → IsSingle v → Same t v → Notes place before before t u v
  notes-nothing t u v x y s = record { ops = []; noted = sym (append-nil before); leads = leads-same t v x y s; none = λ _. refl }

  -- more behind what was noted
  pub notes-more : (middle after ops : List PlainOperation) (t u v w : Tree) (h : Notes place before middle t u v) → after ≡ middle ++ map (under place) ops → Leads (h.ops ++ ops) t w → (Same t u → ops ≡ []) → Notes place before after t u w
  notes-more middle after ops t u v w h e l n = record {
    ops = h.ops ++ ops;
    noted = e ∙ ap (λ x. x ++ map (under place) ops) h.noted ∙ append_assoc before (map (under place) h.ops) (map (under place) ops) ∙ ap (λ x. before ++ x) (sym (map-append (under place) h.ops ops));
    leads = l;
    none = λ s. λ i. h.none s i ++ n s i;
  }

  -- more, noted at a place further on
  pub notes-further : (k : List ℕ) (middle after : List PlainOperation) (t u v w x y : Tree) (h : Notes place before middle t u v) (m : Notes (place ++ k ∷ []) middle after x y y) → Leads (h.ops ++ map (under (k ∷ [])) m.ops) t w → (Same t u → Same x y)
      → Notes place before after t u w
  notes-further k middle after t u v w x y h m l n =
      notes-more middle after (map (under (k ∷ [])) m.ops) t u v w h (m.noted ∙ ap (λ z. middle ++ z) (sym (under-join place (k ∷ []) m.ops))) l (λ s. ap (map (under (k ∷ []))) (m.none (n s)))

  -- of trees that are equal
  pub notes-as : (after : List PlainOperation) (t t' u u' v v' : Tree) → t ≡ t' → u ≡ u' → v ≡ v' → Notes place before after t u v → Notes place before after t' u' v'
  notes-as after t t' u u' v v' e f g h = subst (λ x. Notes place before after x u' v') e (subst (λ x. Notes place before after t x v') f (subst (λ x. Notes place before after t u x) g h))

  -- a replacement
  pub notes-whole : (after : List PlainOperation) (path : List (List ℕ)) (t u v : Tree) → IsSingle t → IsSingle u → after ≡ before ++ replace path v ∷ [] → path ≡ place → v ≡ u → (Same t u → ⊥) → Notes place before after t u u
  notes-whole after path t u v x y e p q n = record {
    ops = replace [] u ∷ [];
    noted = e ∙ (λ i. before ++ replace (p i) (q i) ∷ []) ∙ ap (λ o. before ++ o ∷ []) (sym (under-whole place u));
    leads = leads-whole t u x y;
    none = λ s. absurd (n s);
  }

-- noted from nothing on, at no place
module _ (place : List (List ℕ)) (before ops : List PlainOperation) (t u : Tree) (p : place ≡ []) (b : before ≡ []) (h : Notes place before ops t u u) where
  alone : ops ≡ h.ops
  alone = h.noted ∙ (λ i. b i ++ map (under (p i)) h.ops) ∙ under-nothing h.ops

  pub becomes-noted : Becomes ops t u
  becomes-noted = subst (λ x. Becomes x t u) (sym alone) h.leads.becomes

  pub none-noted : Same t u → ops ≡ []
  none-noted s = alone ∙ h.none s

pub map-none : {A B : Type 0} (f : A → B) (xs : List A) → map f xs ≡ [] → xs ≡ []
map-none f [] e = refl
map-none f (x ∷ xs) e = cc

-- noted where the walk still is, and of a text that is equal
pub noted-there : (p q : List (List ℕ)) (middle after : List PlainOperation) (ops : List ℕ → List PlainOperation) (x k : List ℕ) → q ≡ p → x ≡ k → after ≡ middle ++ map (under q) (ops x) → after ≡ middle ++ map (under p) (ops k)
noted-there p q middle after ops x k e f n = n ∙ (λ i. middle ++ map (under (e i)) (ops (f i)))

pub noted-here : (p q : List (List ℕ)) (middle after ops : List PlainOperation) → q ≡ p → after ≡ middle ++ map (under q) ops → after ≡ middle ++ map (under p) ops
noted-here p q middle after ops e n = n ∙ (λ i. middle ++ map (under (e i)) ops)

pub notes-there : (p q : List (List ℕ)) (x k : List ℕ) (before after : List PlainOperation) (t u v : Tree) → q ≡ p → x ≡ k → Notes (q ++ x ∷ []) before after t u v → Notes (p ++ k ∷ []) before after t u v
notes-there p q x k before after t u v e f h = subst (λ s. Notes s before after t u v) (λ i. e i ++ f i ∷ []) h

-- more operations, all of them known
pub noted-more : (p q : List (List ℕ)) (before middle after ops more all : List PlainOperation) → middle ≡ before ++ map (under p) ops → q ≡ p → after ≡ middle ++ map (under q) more → all ≡ ops ++ more → after ≡ before ++ map (under p) all
noted-more p q before middle after ops more all h e n f = n ∙ (λ i. h i ++ map (under (e i)) more) ∙ append_assoc before (map (under p) ops) (map (under p) more) ∙ ap (λ x. before ++ x) (sym (map-append (under p) ops more)) ∙ ap (λ x. before ++ map (under p) x) (sym f)
