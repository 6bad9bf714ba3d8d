-- Stretches of nodes and the trees, items and members at their front.
use Rattle.std.proofs.Common.{◌≡◌, ℕ, zero, suc, ◌+◌, ◌<◌, ◌≤◌, Bool, false, nat_eq, List, [], ◌∷◌, ◌++◌, length, take, drop, Some, get_or, refl, sym, ap, ◌∙◌, subst, arith, append-nil, length-append}
use Rattle.std.proofs.lemmas.Bool.Decides.{nat_tests}
use Rattle.std.proofs.lemmas.List.{take_at, append_cancel_left, get_or-drop, drop-take, drop-drop, length-drop, take-append-drop}
use Rattle.sj_text_core.specs.Tree.{Tree, null, boolean, int, text, list, obj, Items, no_items, item, items_len, Members, no_members, member, members_len, listed}
use Rattle.sj_text_core.specs.Nodes.{Mark, nothing, truth, number, string, array, object, flat, flat_items, flat_members, trees_of, tree_of, first_tree, items_of, members_of, members_in, IsPreorder, width}
use Rattle.sj_text_core.specs.inner.Nodes.{AreMembers}
use Rattle.sj_text_core.specs.inner.Flat.{texts_and_values, trees_of-flat, trees_of-flat_members}
use Rattle.std.specs.Prelude.{slice_get}
use Rattle.sj_text_core.specs.Find.{nth_item}
use Rattle.sj_text_core.specs.Code.{tree_of-flat}
use Rattle.sj_tape.specs.Marks.{text_in}
use Rattle.sj_tape.specs.inner.Marks.{split_text}
use Rattle.sj_tape.specs.inner.Fronts.{BeginsTree}
use Rattle.sj_tape.specs.Parts.{items_in}
use Rattle.sj_tape.specs.inner.Parts.{AreItemNodes}

-- the first tree of nodes, and what stands behind it, are theirs alone
pub flat-append : (t u : Tree) (x y : List Mark) → flat t ++ x ≡ flat u ++ y → (t ≡ u) × (x ≡ y)
flat-append t u x y e =
    let firsts : t ∷ trees_of x ≡ u ∷ trees_of y = sym (trees_of-flat t x) ∙ (ap (λ l. trees_of l) e ∙ trees_of-flat u y) in
    let same : t ≡ u = ap first_tree firsts in
    (same, append_cancel_left (flat u) x y (ap (λ v. flat v ++ x) (sym same) ∙ e))

-- a tree has a node
pub length-flat : (t : Tree) → 0 < length (flat t)
length-flat null = omega arith
length-flat (boolean b) = omega arith
length-flat (int n c) = omega arith
length-flat (text s) = omega arith
length-flat (list is) = omega arith
length-flat (obj ms) = omega arith

-- its first node tells how many
pub width-flat : (t : Tree) (ns : List Mark) (d : Mark) → width (get_or (flat t ++ ns) 0 d) ≡ length (flat t)
width-flat null ns d = refl
width-flat (boolean b) ns d = refl
width-flat (int n c) ns d = refl
width-flat (text s) ns d = refl
width-flat (list is) ns d = omega arith
width-flat (obj ms) ns d = omega arith

-- a list that is not empty has a first element
pub some_first : {A : Type 0} (xs : List A) (b : Bool) → b ≡ nat_eq (length xs) 0 → b ≡ false → 0 < length xs
some_first xs b e f = grind (arith, nat_tests)

-- nodes that are a tree's are a preorder
pub IsPreorder-flat : (t : Tree) (ns : List Mark) → ns ≡ flat t → IsPreorder ns
IsPreorder-flat t ns e = e ∙ (ap (λ u. flat u) (sym (tree_of-flat t)) ∙ ap (λ l. flat (tree_of l)) (sym e))

pub some_width : (m : Mark) → 1 ≤ width m
some_width nothing = omega arith
some_width (truth b) = omega arith
some_width (number n c) = omega arith
some_width (string s) = omega arith
some_width (array len count) = omega arith
some_width (object len count) = omega arith

-- what the first node tells where a tree begins
pub record FirstWidth (ns : List Mark) : Type 0 where
  pub some : 0 < length ns
  pub fits : width (get_or ns 0 nothing) ≤ length ns
  pub whole : IsPreorder (take (width (get_or ns 0 nothing)) ns)

pub first_width : (ns : List Mark) → BeginsTree ns → FirstWidth ns
first_width ns b =
    let lens : length ns ≡ length (flat b.tree) + length b.rest = ap (λ (l : List Mark). length l) b.are ∙ length-append (flat b.tree) b.rest in
    let w : width (get_or ns 0 nothing) ≡ length (flat b.tree) = ap (λ l. width (get_or l 0 nothing)) b.are ∙ width-flat b.tree b.rest nothing in
    record {
      some = omega (arith, lens, length-flat b.tree);
      fits = omega (arith, lens, w);
      whole = IsPreorder-flat b.tree _ (ap (λ n. take n ns) w ∙ (ap (λ l. take (length (flat b.tree)) l) b.are ∙ take_at (flat b.tree) b.rest (length (flat b.tree)) refl));
    }

-- what the node at a place tells where a tree begins there
pub record TreeAt (place : ℕ) (ns : List Mark) : Type 0 where
  pub some : place < length ns
  pub fits : place + width (get_or ns place nothing) ≤ length ns
  pub whole : IsPreorder (drop place (take (place + width (get_or ns place nothing)) ns))
  pub all : drop place ns ≡ drop place (take (place + width (get_or ns place nothing)) ns) ++ drop (place + width (get_or ns place nothing)) ns

pub tree_at : (place : ℕ) (ns : List Mark) → BeginsTree (drop place ns) → TreeAt place ns
tree_at place ns b =
    let f = first_width (drop place ns) b in
    let here : place + 0 ≡ place = omega arith in
    let w = width (get_or ns place nothing) in
    let same : width (get_or (drop place ns) 0 nothing) ≡ w = ap width (get_or-drop place ns 0 nothing ∙ ap (λ i. get_or ns i nothing) here) in
    let front : drop place (take (place + w) ns) ≡ take (width (get_or (drop place ns) 0 nothing)) (drop place ns) = drop-take place w ns ∙ ap (λ n. take n (drop place ns)) (sym same) in
    record {
      some = omega (arith, f.some, length-drop place ns);
      fits = omega (arith, f.some, f.fits, same, length-drop place ns);
      whole = subst IsPreorder (sym front) f.whole;
      all = sym (take-append-drop w (drop place ns)) ∙ ap (λ l. l ++ drop w (drop place ns)) (sym (drop-take place w ns)) ∙ ap (λ l. drop place (take (place + w) ns) ++ l) (drop-drop w place ns);
    }

trees_of-flat_items : (is : Items) → trees_of (flat_items is) ≡ listed is
trees_of-flat_items no_items = refl
trees_of-flat_items (item t is) = trees_of-flat t (flat_items is) ∙ ap (λ l. t ∷ l) (trees_of-flat_items is)

items_of-listed : (is : Items) (n : ℕ) → items_len is ≤ n → items_of n (listed is) ≡ is
items_of-listed no_items zero h = refl
items_of-listed no_items (suc n) h = refl
items_of-listed (item t is) zero h = absurd (omega (arith, h))
items_of-listed (item t is) (suc n) h = ap (item t) (items_of-listed is n (omega (arith, h)))

pub items_len-le : (is : Items) → items_len is ≤ length (flat_items is)
items_len-le no_items = omega arith
items_len-le (item t is) = omega (arith, items_len-le is, length-flat t, length-append (flat t) (flat_items is))

-- items have their nodes alone
pub items_in-flat : (is : Items) → items_in (flat_items is) ≡ is
items_in-flat is =
    ap (λ l. items_of (length (flat_items is)) l) (trees_of-flat_items is) ∙ items_of-listed is (length (flat_items is)) (items_len-le is)

members_of-texts : (ms : Members) (n : ℕ) → members_len ms ≤ n → members_of n (texts_and_values ms) ≡ ms
members_of-texts no_members zero h = refl
members_of-texts no_members (suc n) h = refl
members_of-texts (member k t ms) zero h = absurd (omega (arith, h))
members_of-texts (member k t ms) (suc n) h = ap (λ l. member k t l) (members_of-texts ms n (omega (arith, h)))

pub members_len-le : (ms : Members) → members_len ms ≤ length (flat_members ms)
members_len-le no_members = omega arith
members_len-le (member k t ms) = omega (arith, members_len-le ms, length-append (flat t) (flat_members ms))

-- members have their nodes alone
pub members_in-flat : (ms : Members) → members_in (flat_members ms) ≡ ms
members_in-flat ms =
    let e : trees_of (flat_members ms) ≡ texts_and_values ms =
    ap (λ l. trees_of l) (sym (append-nil (flat_members ms))) ∙ (trees_of-flat_members ms [] ∙ append-nil (texts_and_values ms)) in
    ap (λ l. members_of (length (flat_members ms)) l) e ∙ members_of-texts ms (length (flat_members ms)) (members_len-le ms)

-- the first of some items
pub record FirstItem (ns : List Mark) : Type 0 where
  pub tree : Tree
  pub others : Items
  pub are : ns ≡ flat tree ++ flat_items others
  pub items : items_in ns ≡ item tree others

pub first_item : (ns : List Mark) → AreItemNodes ns → 0 < length ns → FirstItem ns
first_item ns a h = cases (items_in ns) a refl
  where
    cases : (is : Items) → ns ≡ flat_items is → items_in ns ≡ is → FirstItem ns
    cases no_items e f = absurd (omega (arith, h, ap (λ (l : List Mark). length l) e))
    cases (item t is) e f = record { tree = t; others = is; are = e; items = f }

pub AreItemNodes-flat : (is : Items) (ns : List Mark) → ns ≡ flat_items is → AreItemNodes ns
AreItemNodes-flat is ns e = e ∙ (ap (λ l. flat_items l) (sym (items_in-flat is)) ∙ ap (λ l. flat_items (items_in l)) (sym e))

-- a step over the first of some items
pub record NextItem (ns first rest : List Mark) : Type 0 where
  pub rest_are : AreItemNodes rest
  pub items : items_in ns ≡ item (tree_of first) (items_in rest)

pub next_item : (ns first rest : List Mark) → AreItemNodes ns → 0 < length ns → IsPreorder first → ns ≡ first ++ rest → NextItem ns first rest
next_item ns first rest a h p e =
    let f = first_item ns a h in
    let both = flat-append (tree_of first) f.tree rest (flat_items f.others) (ap (λ l. l ++ rest) (sym p) ∙ (sym e ∙ f.are)) in
    record {
      rest_are = AreItemNodes-flat f.others rest both.1;
      items = f.items ∙ (ap (λ t. item t f.others) (sym both.0) ∙ ap (item (tree_of first)) (sym (items_in-flat f.others) ∙ ap (λ l. items_in l) (sym both.1)));
    }

-- where some items begin, a tree does
pub BeginsTree-items : (ns : List Mark) → AreItemNodes ns → 0 < length ns → BeginsTree ns
BeginsTree-items ns a h = let f = first_item ns a h in record { tree = f.tree; rest = flat_items f.others; are = f.are }

-- the first of some members
pub record FirstMember (ns : List Mark) : Type 0 where
  pub name : List ℕ
  pub tree : Tree
  pub others : Members
  pub are : ns ≡ string name ∷ (flat tree ++ flat_members others)
  pub members : members_in ns ≡ member name tree others

pub first_member : (ns : List Mark) → AreMembers ns → 0 < length ns → FirstMember ns
first_member ns a h = cases (members_in ns) a refl
  where
    cases : (ms : Members) → ns ≡ flat_members ms → members_in ns ≡ ms → FirstMember ns
    cases no_members e f = absurd (omega (arith, h, ap (λ (l : List Mark). length l) e))
    cases (member k t ms) e f = record { name = k; tree = t; others = ms; are = e; members = f }

pub AreMembers-flat : (ms : Members) (ns : List Mark) → ns ≡ flat_members ms → AreMembers ns
AreMembers-flat ms ns e = e ∙ (ap (λ l. flat_members l) (sym (members_in-flat ms)) ∙ ap (λ l. flat_members (members_in l)) (sym e))

-- a text and what stands behind it
pub split_text-are : (ns values : List Mark) (k : List ℕ) → Some (k, values) ≡ split_text ns → ns ≡ string k ∷ values
split_text-are [] values k e = cc
split_text-are (nothing ∷ ns) values k e = cc
split_text-are (truth b ∷ ns) values k e = cc
split_text-are (number n c ∷ ns) values k e = cc
split_text-are (string s ∷ ns) values k e = let h : (k, values) ≡ (s, ns) = cc in ap (λ (p : List ℕ × List Mark). string p.0 ∷ p.1) (sym h)
split_text-are (array l m ∷ ns) values k e = cc
split_text-are (object l m ∷ ns) values k e = cc

-- the same by the first node
pub first_text-are : (ns values : List Mark) (k : List ℕ) → Some k ≡ text_in (get_or ns 0 nothing) → values ≡ drop 1 ns → ns ≡ string k ∷ values
first_text-are [] values k e f = cc
first_text-are (nothing ∷ ns) values k e f = cc
first_text-are (truth b ∷ ns) values k e f = cc
first_text-are (number n c ∷ ns) values k e f = cc
first_text-are (string s ∷ ns) values k e f = ap (λ (p : List ℕ × List Mark). string p.0 ∷ p.1) (let g : (s, ns) ≡ (k, values) = cc in g)
first_text-are (array l m ∷ ns) values k e f = cc
first_text-are (object l m ∷ ns) values k e f = cc

-- what stands behind the first key begins with a tree
pub BeginsTree-member : (ns values : List Mark) (k : List ℕ) → AreMembers ns → ns ≡ string k ∷ values → BeginsTree values
BeginsTree-member ns values k a e =
    let f = first_member ns a (omega (arith, ap (λ (l : List Mark). length l) e)) in
    let both : string k ∷ values ≡ string f.name ∷ (flat f.tree ++ flat_members f.others) = sym e ∙ f.are in
    record { tree = f.tree; rest = flat_members f.others; are = ap (λ l. drop 1 l) both }

-- a step over the first of some members
pub record NextMember (ns : List Mark) (name : List ℕ) (first rest : List Mark) : Type 0 where
  pub rest_are : AreMembers rest
  pub members : members_in ns ≡ member name (tree_of first) (members_in rest)

pub next_member : (ns values : List Mark) (name : List ℕ) (first rest : List Mark) → AreMembers ns → ns ≡ string name ∷ values → IsPreorder first → values ≡ first ++ rest → NextMember ns name first rest
next_member ns values name first rest a n p e =
    let f = first_member ns a (omega (arith, ap (λ (l : List Mark). length l) n)) in
    let fronts : string name ∷ values ≡ string f.name ∷ (flat f.tree ++ flat_members f.others) = sym n ∙ f.are in
    let named : f.name ≡ name = cc in
    let behind : values ≡ flat f.tree ++ flat_members f.others = ap (λ l. drop 1 l) fronts in
    let both = flat-append (tree_of first) f.tree rest (flat_members f.others) (ap (λ l. l ++ rest) (sym p) ∙ (sym e ∙ behind)) in
    record {
      rest_are = AreMembers-flat f.others rest both.1;
      members = f.members ∙ (ap (λ k. member k f.tree f.others) named ∙ (ap (λ t. member name t f.others) (sym both.0)
          ∙ ap (λ l. member name (tree_of first) l) (sym (members_in-flat f.others) ∙ ap (λ l. members_in l) (sym both.1))));
    }

-- an item by its place
pub slice_get-listed : (is : Items) (i : ℕ) → slice_get (listed is) i ≡ nth_item i is
slice_get-listed no_items i = refl
slice_get-listed (item t is) zero = refl
slice_get-listed (item t is) (suc i) = slice_get-listed is i
