-- Lists taken over one by one.
use Rattle.std.proofs.Common.{◌≡◌, ℕ, ◌+◌, ◌<◌, ◌++◌, List, [], ◌∷◌, length, map, take, get_or, Option, Some, None, Ok, MatchOption, sym, ap, ◌∙◌, subst}
use Rattle.std.proofs.lemmas.List.{take_more}
use Rattle.sj_text_core.specs.Tree.{Tree, Items, items_from, listed, list}
use Rattle.sj_text_core.specs.Reads.{read_as, as_items}
use Rattle.sj_text_core.specs.declared.value_type.ValueType.{ValueType}
use Rattle.sj_document.specs.SameWith.{SameEach}
use Rattle.sj_document.proofs.Makes.{each_more}
use Rattle.sj_lazy.proofs.Lists.{listed-from}

pub was_read : {A : Type 0} (o : Option A) (x : A) (a b : ValueType) → Ok x ≡ read_as o a b → Some x ≡ o
was_read None x a b e = absurd (cc)
was_read (Some y) x a b e = cc

pub one_more : {A : Type 0} (xs : List A) (i : ℕ) (x : A) → i < length xs → x ≡ get_or xs i x → take (i + 1) xs ≡ take i xs ++ x ∷ []
one_more xs i x h e = take_more xs i x h ∙ ap (λ y. take i xs ++ y ∷ []) (sym e)

module _ {D X : Type 0} (R : D → X → Type 0) where
  pub each_pushed : (ds es : List D) (xs ys : List X) (d : D) (x : X) → SameEach R ds xs → R d x → es ≡ ds ++ d ∷ [] → ys ≡ xs ++ x ∷ [] → SameEach R es ys
  each_pushed ds es xs ys d x h r e f = subst (λ (l : List X). SameEach R es l) (sym f) (each_more R ds es xs d x h r e)

  pub each_of : (ds es : List D) (xs ys : List X) → ds ≡ es → xs ≡ ys → SameEach R ds xs → SameEach R es ys
  each_of ds es xs ys e f h = subst (λ (l : List D). SameEach R l ys) e (subst (λ (l : List X). SameEach R ds l) f h)

pub same_list : {D : Type 0} (ds es : List D) → SameEach (λ d x. d ≡ x) ds es → ds ≡ es
same_list [] es h = sym h
same_list (d ∷ ds) [] h = absurd h
same_list (d ∷ ds) (e ∷ es) h = λ i. h.0 i ∷ same_list ds es h.1 i

module _ {D X : Type 0} (f : D → Tree) (R : Tree → X → Type 0) where
  -- the trees of documents, each of which is read so
  each_tree : (ds : List D) (xs : List X) → SameEach (λ d x. R (f d) x) ds xs → SameEach R (map f ds) xs
  each_tree [] xs h = h
  each_tree (d ∷ ds) [] h = h
  each_tree (d ∷ ds) (x ∷ xs) h = (h.0, each_tree ds xs h.1)

  -- the items of an array, each of which is read so
  pub list_means : (o : Option Items) (ds : List D) (xs : List X) → Some (items_from (map f ds)) ≡ o → SameEach (λ d x. R (f d) x) ds xs → MatchOption o ⊥ (λ is. SameEach R (listed is) xs)
  list_means o ds xs e h =
      subst (λ (p : Option Items). MatchOption p ⊥ (λ is. SameEach R (listed is) xs)) e
      (subst (λ (l : List Tree). SameEach R l xs) (sym (listed-from (map f ds))) (each_tree ds xs h))

  -- what is made of such documents
  pub made_means : (u : Tree) (es : List D) (xs : List X) → SameEach (λ d x. R (f d) x) es xs → ((ds : List D) × SameEach (λ d x. d ≡ x) ds es × (u ≡ list (items_from (map f ds)))) → MatchOption (as_items u) ⊥ (λ is. SameEach R (listed is) xs)
  made_means u es xs h m = list_means (as_items u) es xs (ap (λ ds. Some (items_from (map f ds))) (sym (same_list m.0 es m.1)) ∙ sym (ap as_items m.2)) h
