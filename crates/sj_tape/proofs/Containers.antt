-- The parts of an array's and an object's nodes.
use Rattle.std.proofs.Common.{◌≡◌, ℕ, Some, List, ◌∷◌, drop, get_or, refl, sym, ap, ◌∙◌}
use Rattle.sj_text_core.specs.Tree.{Tree, null, boolean, int, text, list, obj, Items, items_len, items_from, listed, Members, members_len, members_from, paired}
use Rattle.sj_text_core.specs.Nodes.{Mark, nothing, array, object, flat, flat_items, flat_members, tree_of, members_in, IsPreorder}
use Rattle.sj_text_core.specs.inner.Nodes.{AreMembers}
use Rattle.sj_text_core.specs.Reads.{as_items, as_members}
use Rattle.sj_text_core.proofs.Shapes.{items_from-listed, members_from-paired, list_is, obj_is}
use Rattle.sj_tape.specs.inner.Marks.{array_len, object_len}
use Rattle.sj_tape.specs.Parts.{items_in}
use Rattle.sj_tape.specs.inner.Parts.{AreItemNodes}
use Rattle.sj_tape.proofs.Splits.{items_in-flat, members_in-flat, AreItemNodes-flat, AreMembers-flat}

-- what stands behind an array's node
pub record ArrayOf (ns rest : List Mark) (len : ℕ) : Type 0 where
  pub are : AreItemNodes rest
  pub counted : len ≡ items_len (items_in rest)
  pub items : Some (items_in rest) ≡ as_items (tree_of ns)

pub array_of : (ns rest : List Mark) (len : ℕ) → IsPreorder ns → Some len ≡ array_len (get_or ns 0 nothing) → rest ≡ drop 1 ns → ArrayOf ns rest len
array_of ns rest len p e r = cases (tree_of ns) refl
  where
    first : (t : Tree) → tree_of ns ≡ t → Some len ≡ array_len (get_or (flat t) 0 nothing)
    first t f = e ∙ ap (λ l. array_len (get_or l 0 nothing)) (p ∙ ap (λ u. flat u) f)

    behind : (is : Items) → tree_of ns ≡ list is → Some len ≡ array_len (get_or (flat (list is)) 0 nothing) → ArrayOf ns rest len
    behind is f g =
        let are : rest ≡ flat_items is = r ∙ ap (λ l. drop 1 l) (p ∙ ap (λ u. flat u) f) in
        let same : items_in rest ≡ is = ap (λ l. items_in l) are ∙ items_in-flat is in
        let counted : len ≡ items_len is = cc in
        record {
          are = AreItemNodes-flat is rest are;
          counted = counted ∙ ap (λ l. items_len l) (sym same);
          items = ap (λ l. Some l) same ∙ ap (λ t. as_items t) (sym f);
        }

    cases : (t : Tree) → tree_of ns ≡ t → ArrayOf ns rest len
    cases null f = absurd (let h = first null f in cc)
    cases (boolean b) f = absurd (let h = first (boolean b) f in cc)
    cases (int n c) f = absurd (let h = first (int n c) f in cc)
    cases (text s) f = absurd (let h = first (text s) f in cc)
    cases (list is) f = behind is f (first (list is) f)
    cases (obj ms) f = absurd (let h = first (obj ms) f in cc)

pub array_behind : (ns rest : List Mark) (m : Mark) (len count : ℕ) → IsPreorder ns → ns ≡ m ∷ rest → m ≡ array len count → ArrayOf ns rest len
array_behind ns rest m len count p e f = array_of ns rest len p (sym (ap (λ l. array_len (get_or l 0 nothing)) e ∙ ap array_len f)) (sym (ap (λ l. drop 1 l) e))

-- an array is the list of its items
pub array_from : (t : Tree) (is : Items) (ts : List Tree) → ts ≡ listed is → Some is ≡ as_items t → list (items_from ts) ≡ t
array_from t is ts e f = ap (λ us. list (items_from us)) e ∙ (ap list (items_from-listed is) ∙ sym (list_is t is f))

-- what stands behind an object's node
pub record ObjectOf (ns rest : List Mark) (len : ℕ) : Type 0 where
  pub are : AreMembers rest
  pub counted : len ≡ members_len (members_in rest)
  pub members : Some (members_in rest) ≡ as_members (tree_of ns)

pub object_of : (ns rest : List Mark) (len : ℕ) → IsPreorder ns → Some len ≡ object_len (get_or ns 0 nothing) → rest ≡ drop 1 ns → ObjectOf ns rest len
object_of ns rest len p e r = cases (tree_of ns) refl
  where
    first : (t : Tree) → tree_of ns ≡ t → Some len ≡ object_len (get_or (flat t) 0 nothing)
    first t f = e ∙ ap (λ l. object_len (get_or l 0 nothing)) (p ∙ ap (λ u. flat u) f)

    behind : (ms : Members) → tree_of ns ≡ obj ms → Some len ≡ object_len (get_or (flat (obj ms)) 0 nothing) → ObjectOf ns rest len
    behind ms f g =
        let are : rest ≡ flat_members ms = r ∙ ap (λ l. drop 1 l) (p ∙ ap (λ u. flat u) f) in
        let same : members_in rest ≡ ms = ap (λ l. members_in l) are ∙ members_in-flat ms in
        let counted : len ≡ members_len ms = cc in
        record {
          are = AreMembers-flat ms rest are;
          counted = counted ∙ ap (λ l. members_len l) (sym same);
          members = ap (λ l. Some l) same ∙ ap (λ t. as_members t) (sym f);
        }

    cases : (t : Tree) → tree_of ns ≡ t → ObjectOf ns rest len
    cases null f = absurd (let h = first null f in cc)
    cases (boolean b) f = absurd (let h = first (boolean b) f in cc)
    cases (int n c) f = absurd (let h = first (int n c) f in cc)
    cases (text s) f = absurd (let h = first (text s) f in cc)
    cases (list is) f = absurd (let h = first (list is) f in cc)
    cases (obj ms) f = behind ms f (first (obj ms) f)

pub object_behind : (ns rest : List Mark) (m : Mark) (len count : ℕ) → IsPreorder ns → ns ≡ m ∷ rest → m ≡ object len count → ObjectOf ns rest len
object_behind ns rest m len count p e f = object_of ns rest len p (sym (ap (λ l. object_len (get_or l 0 nothing)) e ∙ ap object_len f)) (sym (ap (λ l. drop 1 l) e))

-- an object is the list of its members
pub object_from : (t : Tree) (ms : Members) (ps : List (List ℕ × Tree)) → ps ≡ paired ms → Some ms ≡ as_members t → obj (members_from ps) ≡ t
object_from t ms ps e f = ap (λ qs. obj (members_from qs)) e ∙ (ap obj (members_from-paired ms) ∙ sym (obj_is t ms f))
