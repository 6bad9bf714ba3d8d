-- A document, level by level, and the tree that it means.
use Rattle.std.proofs.Common.{◌≡◌, ℕ, List, map, Option, Some, None, is_some, option_map, Box, Vec, Global, Bor, MutBor, refl, ap, ◌∙◌, rules}
use Rattle.std.specs.Option.{IsSome, option_copied, option_copied_mut}
use Rattle.sj_text_core.specs.Tree.{list, obj, items_from}
use Rattle.sj_text_core.specs.Scalars.{static_tree}
use Rattle.sj_text_core.specs.declared.static_node.StaticNode.{StaticNode}
use Rattle.sj_object.specs.declared.hasher.NotSoRandomState.{NotSoRandomState}
use Rattle.sj_object.specs.HashMap.{Contents}
use Rattle.sj_object.specs.Members.{entry_members}
use Rattle.sj_object.proofs.Shown.{entry_members-map}
use Rattle.sj_document.specs.Document.{document_tree}
use Rattle.sj_document.specs.declared.value.Document.{Document, Array, Object, Static, the_lemmas}

abbrev pub Map : Type 0 → Type 0
Map T = Contents T (Document T) NotSoRandomState

module _ {T : Type 0} (t : T → List ℕ) where
  pub tree-Object : (b : Box (Map T) Global) → document_tree t (Object b) ≡ obj (entry_members (document_tree t) b.value.entries)
  tree-Object b = let e : document_tree t (Object b) ≡ obj (entry_members (λ u. u) (map (λ e. (e.0, document_tree t e.1)) b.value.entries)) = search (rules, the_lemmas) in e ∙ ap obj (entry_members-map (document_tree t) (λ u. u) b.value.entries)

  pub tree-Static : (n : StaticNode) → document_tree t (Static n) ≡ static_tree n
  tree-Static n = search (rules, the_lemmas)

  pub tree-Array : (b : Box (Vec (Document T) Global) Global) → document_tree t (Array b) ≡ list (items_from (map (document_tree t) b.value.items))
  tree-Array b = search (rules, the_lemmas)

  pub tree_of_ref : (r : Option (Bor (Document T))) → option_map (λ v. document_tree t v.now) r ≡ option_map (document_tree t) (option_copied r)
  tree_of_ref None = refl
  tree_of_ref (Some v) = refl

  pub tree_of_mut : (r : Option (MutBor (Document T))) → option_map (λ v. document_tree t v.now) r ≡ option_map (document_tree t) (option_copied_mut r)
  tree_of_mut None = refl
  tree_of_mut (Some v) = refl

pub some_before : {A B : Type 0} (f : A → B) (o : Option A) → IsSome (option_map f o) → IsSome o
some_before f None h = h
some_before f (Some x) h = h

pub is_some-option_map : {A B : Type 0} (f : A → B) (o : Option A) → is_some (option_map f o) ≡ is_some o
is_some-option_map f None = refl
is_some-option_map f (Some x) = refl
