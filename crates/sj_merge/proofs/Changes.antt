-- What a merge patch says of a value of a document.
use Rattle.std.proofs.Common.{◌≡◌, ℕ, Bool, true, false, List, [], ◌∷◌, Option, Some, None, is_some, option_map, option_and_then, Bor, refl, sym, ap, ◌∙◌, subst, true≢false}
use Rattle.std.specs.Option.{option_copied}
use Rattle.std.specs.Prelude.{IfSome, IsTrue, ◌↔◌}
use Rattle.std.proofs.lemmas.Bool.{false_from_ne_true}
use Rattle.sj_text_core.specs.Tree.{Tree, null, boolean, int, text, list, obj, Members, no_members}
use Rattle.sj_text_core.specs.Keep.{IsSingle, HasSingle}
use Rattle.sj_text_core.specs.Same.{Same}
use Rattle.sj_text_core.specs.Equal.{tree_eq}
use Rattle.sj_text_core.specs.Reads.{as_members}
use Rattle.sj_text_core.proofs.Equal.{tree_eq-decides}
use Rattle.sj_text_core.proofs.Single.{SingleFound, single-kept}
use Rattle.sj_object.specs.Entries.{Entry}
use Rattle.sj_object.specs.Members.{entry_members}
use Rattle.sj_object.proofs.Kept.{object_kept}
use Rattle.sj_document.specs.Document.{document_tree}
use Rattle.sj_document.specs.declared.value.Document.{Document}
use Rattle.sj_document.proofs.Kept.{tree_kept}
use Rattle.sj_document.proofs.Trees.{Map}
use Rattle.sj_merge.specs.Merge.{merged}
use Rattle.sj_merge.specs.MergeDiff.{removals, merge_patch, patch_members}
use Rattle.sj_merge.proofs.Told.{is_same}
use Rattle.sj_merge.proofs.Leads.{is_same_of, leads}
use Rattle.sj_merge.proofs.Without.{without, nothing}

-- documents repeat no text
module _ {T : Type 0} (t : T → List ℕ) where
  pub single_object : (m : Map T) → HasSingle (entry_members (document_tree t) m.entries)
  single_object m = single-kept (obj (entry_members (document_tree t) m.entries)) (object_kept (document_tree t) (tree_kept t) m)

  single_document : (v : Document T) → IsSingle (document_tree t v)
  single_document v = single-kept (document_tree t v) (tree_kept t v)

  pub single_found : (o : Option (Bor (Document T))) → SingleFound (option_map (document_tree t) (option_copied o))
  single_found None = tt
  single_found (Some v) = single_document v.now

  -- what the patch of two documents does, and what there is where there is none
  pub patch_leads : (from to : Document T) (r : Option (Document T)) → option_map (document_tree t) r ≡ merge_patch (Some (document_tree t from)) (document_tree t to) → IfSome r (λ p. Same (merged (Some (document_tree t from)) (document_tree t p)) (document_tree t to))
  patch_leads from to None h = tt
  patch_leads from to (Some p) h = leads (Some (document_tree t from)) (document_tree t to) (document_tree t p) (single_document from) (single_document to) (sym h)

  pub patch_nowhere : (from to : Document T) (r : Option (Document T)) → option_map (document_tree t) r ≡ merge_patch (Some (document_tree t from)) (document_tree t to) → r ≡ None → (p : Document T) → Same (merged (Some (document_tree t from)) (document_tree t p)) (document_tree t to) → ⊥
  patch_nowhere from to r h e p s = without (Some (document_tree t from)) (document_tree t to) (single_document from) (single_document to) (sym h ∙ ap (option_map (document_tree t)) e) (document_tree t p) (single_document p) s

-- an object
eq_object : (u : Tree) (ns : Members) (P : Type 0) → tree_eq u (obj ns) ≡ true → ((ms : Members) → u ≡ obj ms → P) → P
eq_object null ns P e f = absurd (true≢false (sym e))
eq_object (boolean b) ns P e f = absurd (true≢false (sym e))
eq_object (int n c) ns P e f = absurd (true≢false (sym e))
eq_object (text s) ns P e f = absurd (true≢false (sym e))
eq_object (list is) ns P e f = absurd (true≢false (sym e))
eq_object (obj ms) ns P e f = f ms refl

pub tells_nothing : (old : Option Tree) (ns : Members) → SingleFound old → HasSingle ns → is_same old (obj ns) ≡ true → merge_patch old (obj ns) ≡ Some (obj no_members)
tells_nothing None ns a b e = absurd (true≢false (sym e))
tells_nothing (Some u) ns a b e = eq_object u ns _ e (λ ms q.
    ap (λ u. merge_patch (Some u) (obj ns)) q ∙ nothing ms ns (subst IsSingle q a) b (subst (λ u. Same u (obj ns)) q ((tree_eq-decides u (obj ns)).0 e)))

pub impossible : (old : Option Tree) (ns : Members) → SingleFound old → HasSingle ns → merge_patch old (obj ns) ≡ None → is_same old (obj ns) ≡ false
impossible old ns a b h = false_from_ne_true (is_same old (obj ns)) (λ e. some_none (sym (tells_nothing old ns a b e) ∙ h)) where
  some_none : Some (obj no_members) ≡ None → ⊥
  some_none q = cc

pub not_empty : (old : Option Tree) (ns ps : Members) → SingleFound old → HasSingle ns → merge_patch old (obj ns) ≡ Some (obj ps) → (ps ≡ no_members → ⊥) → is_same old (obj ns) ≡ false
not_empty old ns ps a b h n = false_from_ne_true (is_same old (obj ns)) (λ e. n (inner (sym h ∙ tells_nothing old ns a b e))) where
  inner : Some (obj ps) ≡ Some (obj no_members) → ps ≡ no_members
  inner q = cc

pub no_object : (old : Option Tree) (ns : Members) → is_some (option_and_then as_members old) ≡ false → is_same old (obj ns) ≡ false
no_object None ns e = refl
no_object (Some null) ns e = refl
no_object (Some (boolean b)) ns e = refl
no_object (Some (int n c)) ns e = refl
no_object (Some (text s)) ns e = refl
no_object (Some (list is)) ns e = refl
no_object (Some (obj ms)) ns e = absurd (true≢false e)

pub stays : (old : Option Tree) (ns : Members) → SingleFound old → HasSingle ns → is_some (option_and_then as_members old) ≡ true → merge_patch old (obj ns) ≡ Some (obj no_members) → is_same old (obj ns) ≡ true
stays None ns a b e h = absurd (true≢false (sym e))
stays (Some null) ns a b e h = absurd (true≢false (sym e))
stays (Some (boolean x)) ns a b e h = absurd (true≢false (sym e))
stays (Some (int n c)) ns a b e h = absurd (true≢false (sym e))
stays (Some (text s)) ns a b e h = absurd (true≢false (sym e))
stays (Some (list is)) ns a b e h = absurd (true≢false (sym e))
stays (Some (obj ms)) ns a b e h = is_same_of (Some (obj ms)) (obj ns) (leads (Some (obj ms)) (obj ns) (obj no_members) a b h)

pub empty_entries : {K V : Type 0} (f : V → Tree) (es : List (Entry K V)) → entry_members f es ≡ no_members → es ≡ []
empty_entries f [] e = refl
empty_entries f (x ∷ es) e = cc

mapped : (f : Members → Members) (r : Option Members) → option_map obj (option_map f r) ≡ option_map (λ ps. obj (f ps)) r
mapped f None = refl
mapped f (Some ps) = refl

pub patch_of : (old : Option Tree) (ms ns : Members) (r : Option Members) → old ≡ Some (obj ms) → r ≡ option_map (removals ms ns) (patch_members ms ns) → option_map obj r ≡ merge_patch old (obj ns)
patch_of old ms ns r e h = ap (option_map obj) h ∙ mapped (removals ms ns) (patch_members ms ns) ∙ ap (λ o. merge_patch o (obj ns)) (sym e)

-- a value that is none
pub eq_true : (u w : Tree) (b : Bool) → (IsTrue b ↔ Same u w) → b ≡ true → tree_eq u w ≡ true
eq_true u w b d e = (tree_eq-decides u w).1 (d.0 e)

pub eq_false : (u w : Tree) (b : Bool) → (IsTrue b ↔ Same u w) → b ≡ false → tree_eq u w ≡ false
eq_false u w b d e = false_from_ne_true (tree_eq u w) (λ f. true≢false (sym (d.1 ((tree_eq-decides u w).0 f)) ∙ e))
