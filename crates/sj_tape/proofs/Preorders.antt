-- Where trees begin among the nodes of a preorder.
use Rattle.std.proofs.Common.{◌≡◌, ◌⊎◌, ◌↔◌, ℕ, zero, suc, ◌+◌, ◌-◌, ◌<◌, Bool, true, false, nat_eq, IsTrue, Option, Some, None, IfNone, IfSome, Bor, List, [], ◌∷◌, ◌++◌, length, take, drop, get_or, refl, sym, ap, subst, inl, inr, ◌∙◌, arith, append-nil, append_assoc, eqb-true, eq-eqb, take_all}
use Rattle.std.specs.Option.{option_eq}
use Rattle.std.proofs.lemmas.List.{drop-map, drop_more, take_rest}
use Rattle.sj_text_core.specs.Tree.{Tree, null, boolean, int, text, list, obj, Items, no_items, item, items_len, Members, no_members, member, members_len}
use Rattle.sj_text_core.specs.Nodes.{Mark, nothing, width, string, array, object, flat, flat_items, flat_members, tree_of, IsPreorder}
use Rattle.sj_text_core.specs.declared.static_node.StaticNode.{StaticNode}
use Rattle.sj_text_core.specs.declared.static_node.StaticNode.TheVariants.{Null, Bool as Truth, I64, U64, I128, U128}
use Rattle.sj_tape.specs.declared.node.Node.{Node}
use Rattle.sj_tape.specs.declared.node.Node.TheVariants.{Static, String, Array, Object}
use Rattle.sj_tape.specs.Marks.{static_mark, mark, marks}
use Rattle.sj_tape.specs.inner.Fronts.{BeginsTree, AllBegin, BeginsItems, BeginsMembers}
use Rattle.sj_tape.proofs.Counts.{items_count, members_count}
use Rattle.sj_tape.proofs.Splits.{first_width, width-flat}

-- ---- at one node

pub begins_scalar : (s : StaticNode) (ns : List Mark) → BeginsTree (static_mark s ∷ ns)
begins_scalar Null ns = record { tree = null; rest = ns; are = refl }
begins_scalar (Truth b) ns = record { tree = boolean b; rest = ns; are = refl }
begins_scalar (I64 n) ns = record { tree = int n _; rest = ns; are = refl }
begins_scalar (U64 n) ns = record { tree = int _ _; rest = ns; are = refl }
begins_scalar (I128 n) ns = record { tree = int n _; rest = ns; are = refl }
begins_scalar (U128 n) ns = record { tree = int _ _; rest = ns; are = refl }

pub begins_text : (s : List ℕ) (ns : List Mark) → BeginsTree (string s ∷ ns)
begins_text s ns = record { tree = text s; rest = ns; are = refl }

pub begins_array : (len count : ℕ) (ns : List Mark) → BeginsItems len count ns → BeginsTree (array len count ∷ ns)
begins_array len count ns b =
    record {
      tree = list b.items;
      rest = b.rest;
      are = ap (λ l. array len count ∷ l) b.are
          ∙ (ap (λ n. array n count ∷ (flat_items b.items ++ b.rest)) (sym b.counted) ∙ ap (λ n. array (items_len b.items) n ∷ (flat_items b.items ++ b.rest)) (sym b.wide));
    }

pub begins_object : (len count : ℕ) (ns : List Mark) → BeginsMembers len count ns → BeginsTree (object len count ∷ ns)
begins_object len count ns b =
    record {
      tree = obj b.members;
      rest = b.rest;
      are = ap (λ l. object len count ∷ l) b.are
          ∙ (ap (λ n. object n count ∷ (flat_members b.members ++ b.rest)) (sym b.counted) ∙ ap (λ n. object (members_len b.members) n ∷ (flat_members b.members ++ b.rest)) (sym b.wide));
    }

pub items_of_array : (len count : ℕ) (ns : List Mark) → BeginsTree (array len count ∷ ns) → BeginsItems len count ns
items_of_array len count ns b = cases b.tree b.are
  where
    behind : (is : Items) → array len count ∷ ns ≡ flat (list is) ++ b.rest → BeginsItems len count ns
    behind is e =
        let counted : items_len is ≡ len = cc in
        let wide : length (flat_items is) ≡ count = cc in
        record { items = is; rest = b.rest; are = ap (λ l. drop 1 l) e; counted = counted; wide = wide }

    cases : (t : Tree) → array len count ∷ ns ≡ flat t ++ b.rest → BeginsItems len count ns
    cases null e = absurd (cc)
    cases (boolean x) e = absurd (cc)
    cases (int n c) e = absurd (cc)
    cases (text s) e = absurd (cc)
    cases (list is) e = behind is e
    cases (obj ms) e = absurd (cc)

pub members_of_object : (len count : ℕ) (ns : List Mark) → BeginsTree (object len count ∷ ns) → BeginsMembers len count ns
members_of_object len count ns b = cases b.tree b.are
  where
    behind : (ms : Members) → object len count ∷ ns ≡ flat (obj ms) ++ b.rest → BeginsMembers len count ns
    behind ms e =
        let counted : members_len ms ≡ len = cc in
        let wide : length (flat_members ms) ≡ count = cc in
        record { members = ms; rest = b.rest; are = ap (λ l. drop 1 l) e; counted = counted; wide = wide }

    cases : (t : Tree) → object len count ∷ ns ≡ flat t ++ b.rest → BeginsMembers len count ns
    cases null e = absurd (cc)
    cases (boolean x) e = absurd (cc)
    cases (int n c) e = absurd (cc)
    cases (text s) e = absurd (cc)
    cases (list is) e = absurd (cc)
    cases (obj ms) e = behind ms e

-- ---- at every node

mutual
  AllBegin-flat : (t : Tree) (ns : List Mark) → AllBegin ns → AllBegin (flat t ++ ns)
  AllBegin-flat null ns h = (record { tree = null; rest = ns; are = refl }, h)
  AllBegin-flat (boolean b) ns h = (record { tree = boolean b; rest = ns; are = refl }, h)
  AllBegin-flat (int n c) ns h = (record { tree = int n c; rest = ns; are = refl }, h)
  AllBegin-flat (text s) ns h = (record { tree = text s; rest = ns; are = refl }, h)
  AllBegin-flat (list is) ns h = (record { tree = list is; rest = ns; are = refl }, AllBegin-flat_items is ns h)
  AllBegin-flat (obj ms) ns h = (record { tree = obj ms; rest = ns; are = refl }, AllBegin-flat_members ms ns h)

  AllBegin-flat_items : (is : Items) (ns : List Mark) → AllBegin ns → AllBegin (flat_items is ++ ns)
  AllBegin-flat_items no_items ns h = h
  AllBegin-flat_items (item t is) ns h =
      subst (λ l. AllBegin l) (sym (append_assoc (flat t) (flat_items is) ns)) (AllBegin-flat t (flat_items is ++ ns) (AllBegin-flat_items is ns h))

  AllBegin-flat_members : (ms : Members) (ns : List Mark) → AllBegin ns → AllBegin (flat_members ms ++ ns)
  AllBegin-flat_members no_members ns h = h
  AllBegin-flat_members (member k t ms) ns h =
      (begins_text k _, subst (λ l. AllBegin l) (sym (append_assoc (flat t) (flat_members ms) ns)) (AllBegin-flat t (flat_members ms ++ ns) (AllBegin-flat_members ms ns h)))

pub AllBegin-preorder : (ns : List Mark) → IsPreorder ns → AllBegin ns
AllBegin-preorder ns p = subst (λ l. AllBegin l) (append-nil (flat (tree_of ns)) ∙ sym p) (AllBegin-flat (tree_of ns) [] tt)

-- ---- the whole

-- ---- the tests

pub begins_node : (n : Node) (ns : List Mark) → ((s : StaticNode) × (n ≡ Static s)) ⊎ ((x : Bor (List ℕ)) × (n ≡ String x)) → BeginsTree (mark n ∷ ns)
begins_node n ns (inl p) = subst (λ m. BeginsTree (mark m ∷ ns)) (sym p.1) (begins_scalar p.0 ns)
begins_node n ns (inr p) = subst (λ m. BeginsTree (mark m ∷ ns)) (sym p.1) (begins_text p.0.now ns)

pub array_test : (len count : ℕ) (n : Node) (ns : List Mark) (r : Option ℕ) (b : Bool) → n ≡ Array len count
    → IfNone r ((m : ℕ) → ¬ (BeginsItems len m ns)) → IfSome r (λ m. BeginsItems len m ns) → b ≡ option_eq nat_eq r (Some count)
    → IsTrue b ↔ BeginsTree (mark n ∷ ns)
array_test len count n ns None b a none some e =
    (λ t. let h : true ≡ false = sym t ∙ e in cc, λ t. absurd (none count (items_of_array len count ns (subst (λ m. BeginsTree (mark m ∷ ns)) a t))))
array_test len count n ns (Some m) b a none some e = (
  λ t. subst (λ m. BeginsTree (mark m ∷ ns)) (sym a) (begins_array len count ns (subst (λ k. BeginsItems len k ns) (eqb-true m count (sym e ∙ t)) some)),
  λ t. e ∙ eq-eqb m count (items_count len m count ns some (items_of_array len count ns (subst (λ m. BeginsTree (mark m ∷ ns)) a t))),
)

pub object_test : (len count : ℕ) (n : Node) (ns : List Mark) (r : Option ℕ) (b : Bool) → n ≡ Object len count
    → IfNone r ((m : ℕ) → ¬ (BeginsMembers len m ns)) → IfSome r (λ m. BeginsMembers len m ns) → b ≡ option_eq nat_eq r (Some count)
    → IsTrue b ↔ BeginsTree (mark n ∷ ns)
object_test len count n ns None b a none some e =
    (λ t. let h : true ≡ false = sym t ∙ e in cc, λ t. absurd (none count (members_of_object len count ns (subst (λ m. BeginsTree (mark m ∷ ns)) a t))))
object_test len count n ns (Some m) b a none some e = (
  λ t. subst (λ m. BeginsTree (mark m ∷ ns)) (sym a) (begins_object len count ns (subst (λ k. BeginsMembers len k ns) (eqb-true m count (sym e ∙ t)) some)),
  λ t. e ∙ eq-eqb m count (members_count len m count ns some (members_of_object len count ns (subst (λ m. BeginsTree (mark m ∷ ns)) a t))),
)

-- the nodes from a place on, as the one there and those behind it
pub marks_from : (nodes : List Node) (i : ℕ) → i < length nodes
    → drop i (marks nodes) ≡ mark (get_or nodes i (Static Null)) ∷ marks (take (length nodes - (i + 1)) (drop (i + 1) nodes))
marks_from nodes i l =
    drop-map mark i nodes ∙ (ap (λ l. marks l) (drop_more nodes i (Static Null) l)
    ∙ ap (λ l. mark (get_or nodes i (Static Null)) ∷ marks l) (sym (take_rest nodes (i + 1))))

pub AllBegin-behind : (nodes : List Node) (i at : ℕ) → i + 1 ≡ at → AllBegin (drop at (marks nodes)) → AllBegin (marks (take (length nodes - (i + 1)) (drop (i + 1) nodes)))
AllBegin-behind nodes i at e h =
    subst (λ l. AllBegin l) (ap (λ n. drop n (marks nodes)) (sym e) ∙ (drop-map mark (i + 1) nodes ∙ ap (λ l. marks l) (sym (take_rest nodes (i + 1))))) h

pub AllBegin-drop : (i : ℕ) (ns : List Mark) → AllBegin ns → AllBegin (drop i ns)
AllBegin-drop zero ns h = h
AllBegin-drop (suc i) [] h = h
AllBegin-drop (suc i) (m ∷ ns) h = AllBegin-drop i ns h.1

-- a tree begins at each place of a preorder
pub begins_within : (nodes : List Node) (i : ℕ) → i < length nodes → IsPreorder (marks nodes)
    → BeginsTree (mark (get_or nodes i (Static Null)) ∷ marks (take (length nodes - (i + 1)) (drop (i + 1) nodes)))
begins_within nodes i l p = (subst (λ l. AllBegin l) (marks_from nodes i l) (AllBegin-drop i (marks nodes) (AllBegin-preorder (marks nodes) p))).0

-- where a tree begins, it is the whole exactly where its first node tells so
pub whole_test : (ns : List Mark) (w : ℕ) (b : Bool) → BeginsTree ns → w ≡ width (get_or ns 0 nothing) → b ≡ nat_eq w (length ns) → IsTrue b ↔ IsPreorder ns
whole_test ns w b t e h = (
  λ i. let all : w ≡ length ns = eqb-true w (length ns) (sym h ∙ i) in
      subst (λ l. IsPreorder l) (ap (λ n. take n ns) (sym e ∙ all) ∙ take_all (length ns) ns (omega arith)) (first_width ns t).whole,
  λ p. h ∙ eq-eqb w (length ns) (e ∙ whole_width ns p),
)
  where
    whole_width : (ns : List Mark) → IsPreorder ns → width (get_or ns 0 nothing) ≡ length ns
    whole_width ns p =
        let flat_is : flat (tree_of ns) ++ [] ≡ ns = append-nil (flat (tree_of ns)) ∙ sym p in
        ap (λ l. width (get_or l 0 nothing)) (sym flat_is) ∙ width-flat (tree_of ns) [] nothing ∙ ap (λ (l : List Mark). length l) (sym p)
