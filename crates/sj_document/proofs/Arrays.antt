-- The items of a document, how many they are, and edits among them and at their end.
use Rattle.std.proofs.Common.{◌≡◌, ℕ, zero, suc, ◌+◌, ◌<◌, ◌≤◌, ◌++◌, List, [], ◌∷◌, map, length, get_or, set, Option, Some, None, option_map, Vec, Global, refl, sym, ap, ◌∙◌, arith}
use Rattle.std.specs.Option.{option_to_list, MatchOption}
use Rattle.std.specs.Vec.{vec_len}
use Rattle.std.specs.List.{HoldsAt}
use Rattle.std.proofs.lemmas.List.{nil_from_length}
use Rattle.sj_text_core.specs.Tree.{Tree, Items, item, items_len, items_from}
use Rattle.sj_text_core.specs.Find.{nth_item}
use Rattle.sj_text_core.specs.Edits.{push, front, last}
use Rattle.sj_text_core.specs.Paths.{set_item}
use Rattle.sj_document.specs.Document.{document_tree}
use Rattle.sj_document.specs.declared.value.Document.{Document}

pub length-items : {A : Type 0} (f : A → Tree) (vs : List A) → length vs ≡ items_len (items_from (map f vs))
length-items f [] = refl
length-items f (v ∷ vs) = ap suc (length-items f vs)

module _ {T : Type 0} (t : T → List ℕ) where
  abbrev tree : Document T → Tree
  tree = document_tree t

  abbrev pub items_seen : List (Document T) → Items
  items_seen vs = items_from (map tree vs)

  pub items-push : (v : Document T) (vs : List (Document T)) → items_seen (vs ++ v ∷ []) ≡ push (tree v) (items_seen vs)
  items-push v [] = refl
  items-push v (u ∷ us) = ap (item (tree u)) (items-push v us)

  items-front : (v : Document T) (vs : List (Document T)) → front (items_seen (vs ++ v ∷ [])) ≡ items_seen vs
  items-front v [] = refl
  items-front v (u ∷ []) = refl
  items-front v (u ∷ x ∷ xs) = ap (item (tree u)) (items-front v (x ∷ xs))

  items-last : (v : Document T) (vs : List (Document T)) → last (items_seen (vs ++ v ∷ [])) ≡ Some (tree v)
  items-last v [] = refl
  items-last v (u ∷ []) = refl
  items-last v (u ∷ x ∷ xs) = items-last v (x ∷ xs)

  pub pop_last : (r : Option (Document T)) (v w : Vec (Document T) Global) → v.items ≡ w.items ++ option_to_list r → MatchOption r ((vec_len v ≡ 0) × (vec_len w ≡ 0)) (λ _. vec_len w + 1 ≡ vec_len v)
      → option_map tree r ≡ last (items_seen v.items)
  pop_last None v w e h = ap (λ l. last (items_seen l)) (sym (nil_from_length v.items (sym v.ok.0 ∙ h.0)))
  pop_last (Some x) v w e h = sym (items-last x w.items) ∙ ap (λ l. last (items_seen l)) (sym e)

  pub pop_front : (r : Option (Document T)) (v w : Vec (Document T) Global) → v.items ≡ w.items ++ option_to_list r → MatchOption r ((vec_len v ≡ 0) × (vec_len w ≡ 0)) (λ _. vec_len w + 1 ≡ vec_len v)
      → items_seen w.items ≡ front (items_seen v.items)
  pop_front None v w e h = ap items_seen (nil_from_length w.items (sym w.ok.0 ∙ h.1)) ∙ ap (λ l. front (items_seen l)) (sym (nil_from_length v.items (sym v.ok.0 ∙ h.0)))
  pop_front (Some x) v w e h = sym (items-front x w.items) ∙ ap (λ l. front (items_seen l)) (sym e)

  some_nth : (vs : List (Document T)) (i : ℕ) (x : Document T) → i < length vs → HoldsAt (λ y. x ≡ y) vs i → Some (tree x) ≡ nth_item i (items_seen vs)
  some_nth [] i x h e = absurd (omega arith)
  some_nth (v ∷ vs) zero x h e = ap (λ y. Some (tree y)) (e x)
  some_nth (v ∷ vs) (suc i) x h e = some_nth vs i x (omega arith) e

  pub none_nth : (vs : List (Document T)) (i : ℕ) → length vs ≤ i → None ≡ nth_item i (items_seen vs)
  none_nth [] i h = refl
  none_nth (v ∷ vs) zero h = absurd (omega arith)
  none_nth (v ∷ vs) (suc i) h = none_nth vs i (omega arith)

  -- what a reference to the item at that place shows
  pub get_nth : {R : Type 0} (now : R → Document T) (vs : List (Document T)) (i : ℕ) (r : Option R) → MatchOption r (length vs ≤ i) (λ x. (i < length vs) × HoldsAt (λ y. now x ≡ y) vs i) → option_map (λ v. tree (now v)) r ≡ nth_item i (items_seen vs)
  get_nth now vs i None h = none_nth vs i h
  get_nth now vs i (Some x) h = some_nth vs i (now x) h.0 h.1

  pub item_at : (vs : List (Document T)) (i : ℕ) (x : Document T) → i < length vs → x ≡ get_or vs i x → nth_item i (items_seen vs) ≡ Some (tree x)
  item_at [] i x h e = absurd (omega arith)
  item_at (v ∷ vs) zero x h e = ap (λ y. Some (tree y)) (sym e)
  item_at (v ∷ vs) (suc i) x h e = item_at vs i x (omega arith) e

  pub item_set : (vs : List (Document T)) (i : ℕ) (x : Document T) → items_seen (set vs i x) ≡ set_item i (tree x) (items_seen vs)
  item_set [] i x = refl
  item_set (v ∷ vs) zero x = refl
  item_set (v ∷ vs) (suc i) x = ap (item (tree v)) (item_set vs i x)
