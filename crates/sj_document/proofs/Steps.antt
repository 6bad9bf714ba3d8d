-- One step of a path, on a map and on the tree that it means.
use Rattle.std.proofs.Common.{◌≡◌, ℕ, List, ◌∷◌, ◌<◌, map, drop, length, get_or, Option, Some, None, option_map, refl, sym, ap, ◌∙◌, drop-cons, take, ◌-◌, arith}
use Rattle.std.proofs.lemmas.Grind.{common_steps}
use Rattle.sj_text_core.specs.Tree.{Tree, obj}
use Rattle.sj_text_core.specs.Find.{find_member}
use Rattle.sj_text_core.specs.Paths.{by_key, change_found}
use Rattle.sj_text_core.specs.Edits as members
use Rattle.sj_object.specs.Edits.{lookup, with_value}
use Rattle.sj_object.specs.Members.{entry_members}
use Rattle.sj_object.proofs.Shown.{lookup-entry_members, entry_members-set_value}
use Rattle.sj_document.specs.Document.{document_tree}
use Rattle.sj_document.specs.declared.value.Document.{Document}
use Rattle.sj_document.proofs.Trees.{Map}

module _ {T : Type 0} (t : T → List ℕ) where
  abbrev object : Map T → Tree
  object m = obj (entry_members (document_tree t) m.entries)

  placed_by : (m n : Map T) (k : List ℕ) (f : Tree → Tree) (o : Option (Document T)) → lookup k m.entries ≡ o
      → ((v : Document T) → lookup k m.entries ≡ Some v → (w : Document T) × ((document_tree t w ≡ f (document_tree t v)) × (n ≡ with_value m k w)))
      → (lookup k m.entries ≡ None → n ≡ m)
      → object n ≡ change_found (option_map (document_tree t) o) (by_key k) f (object m)
  placed_by m n k f None e found absent = ap object (absent e)
  placed_by m n k f (Some v) e found absent =
      let r = found v e in
      ap object r.1.1 ∙ ap obj (entry_members-set_value (document_tree t) k r.0 v m.entries e) ∙ ap (λ u. obj (members.put k u (entry_members (document_tree t) m.entries))) r.1.0

  -- what a write at the key of a map is on the object
  pub placed : (m n : Map T) (k : List ℕ) (f : Tree → Tree)
      → ((v : Document T) → lookup k m.entries ≡ Some v → (w : Document T) × ((document_tree t w ≡ f (document_tree t v)) × (n ≡ with_value m k w)))
      → (lookup k m.entries ≡ None → n ≡ m)
      → object n ≡ change_found (find_member k (entry_members (document_tree t) m.entries)) (by_key k) f (object m)
  placed m n k f found absent = placed_by m n k f _ refl found absent ∙ ap (λ o. change_found o (by_key k) f (object m)) (lookup-entry_members (document_tree t) k m.entries)

rest_is : {A : Type 0} (xs : List A) → take (length xs - 1) (drop 1 xs) ≡ drop 1 xs
rest_is xs = grind (arith, common_steps)

pub first_of : {A B : Type 0} (f : A → B) (xs : List A) (x : A) → 0 < length xs → x ≡ get_or xs 0 x → map f xs ≡ f x ∷ map f (take (length xs - 1) (drop 1 xs))
first_of f xs x h e = ap (map f) (drop-cons xs 0 x h) ∙ (λ j. f (sym e j) ∷ map f (sym (rest_is xs) j))
