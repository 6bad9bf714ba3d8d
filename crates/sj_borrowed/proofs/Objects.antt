-- What a map answers, on the object that it is the members of.
use Rattle.std.proofs.Common.{◌≡◌, ℕ, List, Option, Some, None, IsSome, IfSome, option_map, Bor, refl, sym, ap, ◌∙◌, subst}
use Rattle.std.specs.Option.{option_copied}
use Rattle.sj_text_core.specs.Tree.{Tree, null, boolean, int, text, list, obj, Members}
use Rattle.sj_text_core.specs.Find.{find, find_member}
use Rattle.sj_text_core.specs.Reads.{as_members}
use Rattle.sj_object.specs.Edits.{lookup}
use Rattle.sj_object.specs.Members.{entry_members}
use Rattle.sj_object.proofs.Shown.{lookup-entry_members}
use Rattle.sj_document.specs.Document.{document_tree}
use Rattle.sj_document.specs.declared.value.Document.{Document}
use Rattle.sj_document.proofs.Trees.{Map, tree_of_ref, some_before}

pub find_in : (k : List ℕ) (u : Tree) (ms : Members) → Some ms ≡ as_members u → find k u ≡ find_member k ms
find_in k null ms e = cc
find_in k (boolean b) ms e = cc
find_in k (int n c) ms e = cc
find_in k (text s) ms e = cc
find_in k (list is) ms e = cc
find_in k (obj ns) ms e = cc

none_of : {A B : Type 0} (f : A → B) (o : Option A) → option_map f o ≡ None → o ≡ None
none_of f None h = refl
none_of f (Some a) h = cc

value_of : {A B : Type 0} (f : A → B) (o : Option A) (w : A) → IfSome o (λ v. w ≡ v) → IfSome (option_map f o) (λ b. f w ≡ b)
value_of f None w h = h
value_of f (Some a) w h = ap f h

module _ {T : Type 0} (t : T → List ℕ) (m : Map T) (k : List ℕ) (u : Tree) (e : Some (entry_members (document_tree t) m.entries) ≡ as_members u) where
  pub found_in : (r : Option (Document T)) → r ≡ lookup k m.entries → option_map (document_tree t) r ≡ find k u
  found_in r f = ap (option_map (document_tree t)) f ∙ lookup-entry_members (document_tree t) k m.entries ∙ sym (find_in k u _ e)

  pub found_ref : (r : Option (Bor (Document T))) → option_copied r ≡ lookup k m.entries → option_map (λ v. document_tree t v.now) r ≡ find k u
  found_ref r f = tree_of_ref t r ∙ found_in (option_copied r) f

  shown : option_map (document_tree t) (lookup k m.entries) ≡ find k u
  shown = found_in (lookup k m.entries) refl

  pub is_object : IsSome (as_members u)
  is_object = subst (λ o. IsSome o) e refl

  pub there : IsSome (find k u) → IsSome (lookup k m.entries)
  there h = some_before (document_tree t) (lookup k m.entries) (subst (λ o. IsSome o) (sym shown) h)

  pub absent : find k u ≡ None → lookup k m.entries ≡ None
  absent h = none_of (document_tree t) (lookup k m.entries) (shown ∙ h)

  pub not_found : lookup k m.entries ≡ None → find k u ≡ None
  not_found h = sym shown ∙ ap (option_map (document_tree t)) h

  pub found_value : (w : Document T) → IfSome (lookup k m.entries) (λ v. w ≡ v) → IfSome (find k u) (λ b. document_tree t w ≡ b)
  found_value w h = subst (λ o. IfSome o (λ b. document_tree t w ≡ b)) shown (value_of (document_tree t) (lookup k m.entries) w h)
