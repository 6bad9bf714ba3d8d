-- An item inserted among the items of a document, and one taken out.
use Rattle.std.proofs.Common.{◌≡◌, ◌≤◌, ℕ, zero, suc, List, [], ◌∷◌, length, refl, ap, arith}
use Rattle.std.specs.List.{insert, remove}
use Rattle.sj_text_core.specs.Tree.{item}
use Rattle.sj_document.specs.Document.{document_tree}
use Rattle.sj_document.specs.Items.{insert_at, remove_at}
use Rattle.sj_document.specs.declared.value.Document.{Document}
use Rattle.sj_document.proofs.Arrays.{items_seen}

module _ {T : Type 0} (t : T → List ℕ) where
  pub items-insert : (vs : List (Document T)) (i : ℕ) (x : Document T) → i ≤ length vs → items_seen t (insert vs i x) ≡ insert_at i (document_tree t x) (items_seen t vs)
  items-insert [] zero x h = refl
  items-insert [] (suc i) x h = absurd (omega (arith, h))
  items-insert (v ∷ vs) zero x h = refl
  items-insert (v ∷ vs) (suc i) x h = ap (item (document_tree t v)) (items-insert vs i x (omega (arith, h)))

  pub items-remove : (vs : List (Document T)) (i : ℕ) → items_seen t (remove vs i) ≡ remove_at i (items_seen t vs)
  items-remove [] zero = refl
  items-remove [] (suc i) = refl
  items-remove (v ∷ vs) zero = refl
  items-remove (v ∷ vs) (suc i) = ap (item (document_tree t v)) (items-remove vs i)

  -- past the last nothing is removed
  pub remove-past : (vs : List (Document T)) (i : ℕ) → length vs ≤ i → remove_at i (items_seen t vs) ≡ items_seen t vs
  remove-past [] i h = refl
  remove-past (v ∷ vs) zero h = absurd (omega (arith, h))
  remove-past (v ∷ vs) (suc i) h = ap (item (document_tree t v)) (remove-past vs i (omega (arith, h)))
