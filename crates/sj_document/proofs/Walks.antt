-- A walk over the items of a document, one after another.
use Rattle.std.proofs.Common.{◌≡◌, ℕ, zero, suc, ◌+◌, ◌<◌, ◌≤◌, List, [], ◌∷◌, ◌++◌, map, length, get_or, take, sym, ap, ◌∙◌, arith}
use Rattle.std.proofs.lemmas.List.{map-append, take_more}
use Rattle.sj_text_core.specs.Tree.{depth, items_depth, items_from}
use Rattle.sj_document.specs.Document.{document_tree}
use Rattle.sj_document.specs.declared.value.Document.{Document}

module _ {T : Type 0} (t : T → List ℕ) where
  pub item_within : (vs : List (Document T)) (i : ℕ) (x : Document T) → i < length vs → x ≡ get_or vs i x → depth (document_tree t x) ≤ items_depth (items_from (map (document_tree t) vs))
  item_within [] i x h e = absurd (omega arith)
  item_within (v ∷ vs) zero x h e = let w : depth (document_tree t x) ≡ depth (document_tree t v) = ap (λ y. depth (document_tree t y)) e in omega (arith, w)
  item_within (v ∷ vs) (suc i) x h e = let w : depth (document_tree t x) ≤ items_depth (items_from (map (document_tree t) vs)) = item_within vs i x (omega arith) e in omega (arith, w)

  pub copied_next : (vs us ws : List (Document T)) (i : ℕ) (x w : Document T) → i < length vs → x ≡ get_or vs i x → map (document_tree t) us ≡ map (document_tree t) (take i vs) → document_tree t w ≡ document_tree t x → ws ≡ us ++ w ∷ []
      → map (document_tree t) ws ≡ map (document_tree t) (take (i + 1) vs)
  copied_next vs us ws i x w h e before same pushed =
      ap (map (document_tree t)) pushed ∙ map-append (document_tree t) us (w ∷ []) ∙ (λ j. before j ++ same j ∷ []) ∙ (λ j. map (document_tree t) (take i vs) ++ document_tree t (e j) ∷ [])
      ∙ sym (map-append (document_tree t) (take i vs) (get_or vs i x ∷ [])) ∙ ap (map (document_tree t)) (sym (take_more vs i x h))
