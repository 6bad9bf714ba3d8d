-- What is done among members or items, as what is done in the document that holds them.
use Rattle.std.proofs.Common.{◌≡◌, ℕ, List, Box, Vec, Global, map, sym, ap, ◌∙◌}
use Rattle.sj_text_core.specs.Tree.{Tree, list, obj, items_from}
use Rattle.sj_object.specs.Members.{entry_members}
use Rattle.sj_document.specs.Document.{document_tree}
use Rattle.sj_document.specs.declared.value.Document.{Document, Object, Array}
use Rattle.sj_document.proofs.Trees.{Map, tree-Object, tree-Array}
use Rattle.sj_patch.proofs.Within.{by_equal}

module _ {T : Type 0} (t : T → List ℕ) (R : Tree → Tree → Type 0) where
  -- an object, of which m became n
  pub in_object : (before after : Document T) (b : Box (Map T) Global) (m n : Map T) → before ≡ Object b → m ≡ b.value → after ≡ Object (record b { value = n })
      → R (obj (entry_members (document_tree t) m.entries)) (obj (entry_members (document_tree t) n.entries)) → R (document_tree t before) (document_tree t after)
  in_object before after b m n e v f h =
      by_equal R (obj (entry_members (document_tree t) m.entries)) (document_tree t before) (obj (entry_members (document_tree t) n.entries)) (document_tree t after)
      (ap (document_tree t) e ∙ tree-Object t b ∙ sym (ap (λ m. obj (entry_members (document_tree t) m.entries)) v)) (ap (document_tree t) f ∙ tree-Object t (record b { value = n })) h

  -- an array, of which m became n
  pub in_array : (before after : Document T) (b : Box (Vec (Document T) Global) Global) (m n : Vec (Document T) Global) → before ≡ Array b → m ≡ b.value → after ≡ Array (record b { value = n })
      → R (list (items_from (map (document_tree t) m.items))) (list (items_from (map (document_tree t) n.items))) → R (document_tree t before) (document_tree t after)
  in_array before after b m n e v f h =
      by_equal R (list (items_from (map (document_tree t) m.items))) (document_tree t before) (list (items_from (map (document_tree t) n.items))) (document_tree t after)
      (ap (document_tree t) e ∙ tree-Array t b ∙ sym (ap (λ m. list (items_from (map (document_tree t) m.items))) v)) (ap (document_tree t) f ∙ tree-Array t (record b { value = n })) h
