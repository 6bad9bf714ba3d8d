-- Operations that are given the values of their items.
use Rattle.std.proofs.Common.{◌≡◌, ℕ, zero, suc, ◌<◌, List, [], ◌∷◌, ◌++◌, Option, Some, None, unwrap_or, option_map, length, get_or, map, take, drop, slice_set, refl, sym, ap, ◌∙◌, arith}
use Rattle.std.specs.Option.{UnwrapsOrElse}
use Rattle.sj_text_core.specs.Tree.{Tree, null, no_items}
use Rattle.sj_document.specs.Document.{document_tree}
use Rattle.sj_document.specs.declared.value.Document.{Document}
use Rattle.sj_patch.specs.declared.operation.Operation.{Operation}
use Rattle.sj_patch.specs.Patch.{PlainOperation}
use Rattle.sj_patch.specs.inner.Filled.{filled, filled_all}
use Rattle.sj_patch.specs.Meant.{meant}
use Rattle.sj_patch.proofs.Behind.{seen}

-- with no items left, operations stay
filled_all-none : (os : List PlainOperation) → filled_all os no_items ≡ os
filled_all-none [] = refl
filled_all-none (o ∷ os) = refl

none_left : {A : Type 0} (xs : List A) (n : ℕ) → n ≡ length xs → n ≡ 0 → xs ≡ []
none_left [] n e z = refl
none_left (x ∷ xs) n e z = absurd (omega (arith, e, z))

module _ {T : Type 0} (t : T → List ℕ) where
  -- where no item is left, the operation stays
  pub filled-last : (o : PlainOperation) (os : List PlainOperation) (old new : List (Document T)) (n : ℕ)
      → n ≡ length old → n ≡ 0 → old ≡ new → filled_all (o ∷ os) (seen t old) ≡ o ∷ filled_all os (seen t new)
  filled-last o os old new n e z same =
      let none = none_left old n e z in
      ap (λ l. filled_all (o ∷ os) (seen t l)) none ∙ ap (λ ps. o ∷ ps) (sym (filled_all-none os)) ∙ ap (λ l. o ∷ filled_all os (seen t l)) (sym none ∙ same)

  more_by : (xs : List (Operation T)) (vs : List (Document T)) (v : Document T) (o : PlainOperation)
      → length xs < length vs → v ≡ get_or vs (length xs) v
      → filled_all (map (meant t) xs ++ o ∷ []) (seen t vs) ≡ filled_all (map (meant t) xs) (seen t vs) ++ filled o (document_tree t v) ∷ []
  more_by [] [] v o h e = absurd (omega (arith, h))
  more_by [] (u ∷ us) v o h e = ap (λ x. filled o (document_tree t x) ∷ []) (sym e)
  more_by (x ∷ xs) [] v o h e = absurd (omega (arith, h))
  more_by (x ∷ xs) (u ∷ us) v o h e = ap (λ os. filled (meant t x) (document_tree t u) ∷ os) (more_by xs us v o (omega (arith, h)) e)

  -- one more operation, which has the value of the item behind those of the others
  pub filled-more : (xs : List (Operation T)) (vs : List (Document T)) (i : ℕ) (v : Document T) (o : PlainOperation)
      → length xs ≡ i → i < length vs → v ≡ get_or vs i v
      → filled_all (map (meant t) xs ++ o ∷ []) (seen t vs) ≡ filled_all (map (meant t) xs) (seen t vs) ++ filled o (document_tree t v) ∷ []
  filled-more xs vs i v o n h e = more_by xs vs v o (omega (arith, n, h)) (e ∙ ap (λ k. get_or vs k v) (sym n))

  -- one operation more is given what the next item has
  pub filled_further : (os : List (Operation T)) (i : ℕ) (x y : Operation T) (vs ws : List (Document T)) (r : List PlainOperation) → i < length os → x ≡ get_or os i x
      → ((ps : List PlainOperation) → filled_all (meant t x ∷ ps) (seen t vs) ≡ meant t y ∷ filled_all ps (seen t ws))
      → map (meant t) (take i os) ++ filled_all (map (meant t) (drop i os)) (seen t vs) ≡ r
      → map (meant t) (take (suc i) (slice_set os i y)) ++ filled_all (map (meant t) (drop (suc i) (slice_set os i y))) (seen t ws) ≡ r
  filled_further [] i x y vs ws r l e f h = absurd (omega (arith, l))
  filled_further (o ∷ os) zero x y vs ws r l e f h = sym (f (map (meant t) os)) ∙ ap (λ z. filled_all (meant t z ∷ map (meant t) os) (seen t vs)) e ∙ h
  filled_further (o ∷ os) (suc i) x y vs ws r l e f h = ap (λ ps. meant t o ∷ ps) (filled_further os i x y vs ws _ (omega (arith, l)) e f refl) ∙ h

-- the value that a look-up found, or a null
pub value_found : {V : Type 0} (tree_of : V → Tree) (o : Option V) (r : V) → UnwrapsOrElse o (λ v. tree_of v ≡ null) r → tree_of r ≡ unwrap_or (option_map tree_of o) null
value_found tree_of None r h = h
value_found tree_of (Some v) r h = ap tree_of h
