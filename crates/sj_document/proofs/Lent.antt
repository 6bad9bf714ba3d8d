-- The tree of a document where a member of it is lent.
use Rattle.std.proofs.Common.{◌≡◌, ℕ, List, Option, Some, None, option_map, Vec, Global, MutBor, refl, sym, ap, ◌∙◌}
use Rattle.std.specs.Vec.{with_item}
use Rattle.std.specs.Option.{option_copied_mut}
use Rattle.sj_text_core.specs.Tree.{Tree, null, boolean, int, text, list, obj, Items, Members}
use Rattle.sj_text_core.specs.Find.{find, nth}
use Rattle.sj_text_core.specs.Reads.{as_items, as_members}
use Rattle.sj_text_core.specs.Paths.{by_key, by_place, set_found}
use Rattle.sj_object.specs.Edits.{lookup, with_value}
use Rattle.sj_object.specs.Members.{entry_members}
use Rattle.sj_object.proofs.Shown.{lookup-entry_members, entry_members-set_value}
use Rattle.sj_document.specs.Document.{document_tree}
use Rattle.sj_document.specs.declared.value.Document.{Document}
use Rattle.sj_document.proofs.Trees.{Map, tree_of_mut}
use Rattle.sj_document.proofs.Arrays.{items_seen, item_set}

pub no_members_found : (k : List ℕ) (u : Tree) → None ≡ as_members u → None ≡ find k u
no_members_found k null e = refl
no_members_found k (boolean b) e = refl
no_members_found k (int n c) e = refl
no_members_found k (text s) e = refl
no_members_found k (list is) e = refl
no_members_found k (obj ms) e = cc

pub object_of : (ms : Members) (u : Tree) → Some ms ≡ as_members u → obj ms ≡ u
object_of ms null e = cc
object_of ms (boolean b) e = cc
object_of ms (int n c) e = cc
object_of ms (text s) e = cc
object_of ms (list is) e = cc
object_of ms (obj ns) e = cc

pub no_items_found : (i : ℕ) (u : Tree) → None ≡ as_items u → None ≡ nth i u
no_items_found i null e = refl
no_items_found i (boolean b) e = refl
no_items_found i (int n c) e = refl
no_items_found i (text s) e = refl
no_items_found i (list is) e = cc
no_items_found i (obj ms) e = refl

pub array_of : (is : Items) (u : Tree) → Some is ≡ as_items u → list is ≡ u
array_of is null e = cc
array_of is (boolean b) e = cc
array_of is (int n c) e = cc
array_of is (text s) e = cc
array_of is (list js) e = cc
array_of is (obj ms) e = cc

module _ {T : Type 0} (t : T → List ℕ) where
  abbrev tree : Document T → Tree
  tree = document_tree t

  module _ (k : List ℕ) (m : Map T) (u : Tree) (e : obj (entry_members tree m.entries) ≡ u) where
    -- what a reference to the value of the key shows
    pub member_shown : (r : Option (MutBor (Document T))) → option_copied_mut r ≡ lookup k m.entries → option_map (λ v. tree v.now) r ≡ find k u
    member_shown r h = tree_of_mut t r ∙ ap (option_map tree) h ∙ lookup-entry_members tree k m.entries ∙ ap (find k) e

    -- the value of the key is written
    pub member_written : (v w n : Document T) → Some v ≡ lookup k m.entries → tree n ≡ obj (entry_members tree (with_value m k w).entries) → tree n ≡ set_found (by_key k) (tree w) u
    member_written v w n h f = f ∙ ap obj (entry_members-set_value tree k w v m.entries (sym h)) ∙ ap (set_found (by_key k) (tree w)) e

  -- the item at a place is written
  pub item_written : (i : ℕ) (v : Vec (Document T) Global) (u : Tree) → list (items_seen t v.items) ≡ u → (w n : Document T)
      → tree n ≡ list (items_seen t (with_item v i w).items) → tree n ≡ set_found (by_place i) (tree w) u
  item_written i v u e w n f = f ∙ ap list (item_set t v.items i w) ∙ ap (set_found (by_place i) (tree w)) e
