-- Piles, and the trees that nodes are.
use Rattle.std.proofs.Common.{◌≡◌, ℕ, zero, suc, ◌+◌, ◌≤◌, ◌<◌, List, [], ◌∷◌, ◌++◌, map, drop, length, get_or, refl, ap, sym, ◌∙◌, append_assoc, append-nil, arith, subst}
use Rattle.std.proofs.lemmas.List.{length-drop, drop-drop, drop_at, drop_all}
use Rattle.sj_text_core.specs.Tree.{Tree, null, boolean, int, text, list, obj, Items, no_items, item, Members, no_members, member, items_len, members_len, items_from, members_from, listed}
use Rattle.sj_text_core.specs.Nodes.{Mark, nothing, string, array, flat, flat_items, flat_members, trees_of, tree_of, first_tree, IsPreorder, width}
use Rattle.sj_text_core.specs.Repeats.{keep_by}
use Rattle.sj_text_core.specs.declared.repeats.Repeats.{Repeats}
use Rattle.sj_text_core.specs.inner.Flat.{trees_of-flat}
use Rattle.sj_tape.specs.inner.Fronts.{BeginsTree}
use Rattle.sj_tape.proofs.Counts.{begins_first}
use Rattle.sj_tape.proofs.Preorders.{AllBegin-drop, AllBegin-preorder}
use Rattle.sj_object.specs.Entries.{Entry}
use Rattle.sj_object.specs.Members.{entry_members}
use Rattle.sj_object.proofs.KeptBy.{tree_by, tree_kept, items_kept, pairs_by, members_kept}
use Rattle.sj_object.specs.inner.Piles.{pile_onto, pile, made_of, left_of, IsThere, first_mark, key_of_mark, behind, CanTake, taken, trees_left, CanTakeItems, taken_pairs, left_pairs, CanTakePairs, kept_by, entry_pairs, Needs, grown}

-- ---- one value more, or less

pile_push : {V : Type 0} (tree : V → Tree) (below : List Tree) (vs : List V) (v : V) → pile_onto tree below (vs ++ v ∷ []) ≡ tree v ∷ pile_onto tree below vs
pile_push tree below [] v = refl
pile_push tree below (w ∷ vs) v = pile_push tree (tree w ∷ below) vs v

pub popped : {V : Type 0} (tree : V → Tree) (vs ws : List V) (v : V) → vs ≡ ws ++ v ∷ [] → pile tree vs ≡ tree v ∷ pile tree ws
popped tree vs ws v e = ap (pile tree) e ∙ pile_push tree [] ws v

-- the tree on top, and what lies below
pub top_made : {V : Type 0} (tree : V → Tree) (vs ws : List V) (v : V) → vs ≡ ws ++ v ∷ [] → (tree v ≡ first_tree (pile tree vs)) × (pile tree ws ≡ drop 1 (pile tree vs))
top_made tree vs ws v e = let p = popped tree vs ws v e in (sym (ap first_tree p), sym (ap (drop 1) p))

-- ---- one tree at a position

-- a list that begins with m
pub begins_with : (ns : List Mark) (m : Mark) → 0 < length ns → m ≡ get_or ns 0 nothing → ns ≡ m ∷ drop 1 ns
begins_with [] m h e = absurd (omega (arith, h))
begins_with (n ∷ ns) m h e = ap (λ k. k ∷ ns) (sym e)

pub first_at : (i : ℕ) (ns : List Mark) → first_mark (drop i ns) ≡ get_or ns i nothing
first_at zero [] = refl
first_at zero (m ∷ ns) = refl
first_at (suc i) [] = refl
first_at (suc i) (m ∷ ns) = first_at i ns

-- the node x stands at the position i
pub record At (ns : List Mark) (i : ℕ) (x : Mark) : Type 0 where
  pub inside : i < length ns
  pub first : first_mark (drop i ns) ≡ x

pub at : (ns : List Mark) (i : ℕ) (x : Mark) → x ≡ get_or ns i nothing → 0 < length (drop i ns) → At ns i x
at ns i x e h = record { inside = omega (arith, h, length-drop i ns); first = first_at i ns ∙ sym e }

-- how far its tree goes, and what stands behind
pub record Whole (ns : List Mark) (i : ℕ) (x : Mark) (ps : List Tree) : Type 0 where
  pub inside : i < length ns
  pub first : first_mark (drop i ns) ≡ x
  pub wide : i + width x ≤ length ns
  pub there : IsThere x ps
  pub after : behind (drop i ns) ≡ drop (i + width x) ns

pub whole_at : (ns : List Mark) (i : ℕ) (x : Mark) (ps : List Tree) → x ≡ get_or ns i nothing → CanTake (drop i ns) ps → Whole ns i x ps
whole_at ns i x ps e can =
    let h = at ns i x e can.0 in
    let w = ap width h.first in
    record {
      inside = h.inside;
      first = h.first;
      wide = omega (arith, can.1, w, h.inside, length-drop i ns);
      there = subst (λ m. IsThere m ps) h.first can.2;
      after = drop-drop (width (first_mark (drop i ns))) i ns ∙ ap (λ n. drop (i + n) ns) w;
    }

-- one item less
pub record OneItem (ns : List Mark) (i m : ℕ) (x : Mark) (ps : List Tree) : Type 0 where
  pub whole : Whole ns i x ps
  pub can : CanTakeItems m (drop (i + width x) ns) (left_of x ps)
  pub made : taken (suc m) (drop i ns) ps ≡ made_of x ps ∷ taken m (drop (i + width x) ns) (left_of x ps)
  pub less : trees_left (suc m) (drop i ns) ps ≡ trees_left m (drop (i + width x) ns) (left_of x ps)

pub one_item : (ns : List Mark) (i n m : ℕ) (x : Mark) (ps : List Tree) → n ≡ suc m → x ≡ get_or ns i nothing → CanTakeItems n (drop i ns) ps → OneItem ns i m x ps
one_item ns i n m x ps e f h =
    let can = subst (λ k. CanTakeItems k (drop i ns) ps) e h in
    let w = whole_at ns i x ps f can.0 in
    record {
      whole = w;
      can = subst (λ (p : List Mark × List Tree). CanTakeItems m p.0 p.1) (λ j. (w.after j, left_of (w.first j) ps)) can.1;
      made = λ j. made_of (w.first j) ps ∷ taken m (w.after j) (left_of (w.first j) ps);
      less = λ j. trees_left m (w.after j) (left_of (w.first j) ps);
    }

-- one member less, whose key is k
pub record OneMember (ns : List Mark) (i m : ℕ) (k x : Mark) (ps : List Tree) : Type 0 where
  pub key : At ns i k
  pub text : k ≡ string (key_of_mark k)
  pub take : CanTake (drop (i + 1) ns) ps
  pub whole : Whole ns (i + 1) x ps
  pub can : CanTakePairs m (drop (i + 1 + width x) ns) (left_of x ps)
  pub made : taken_pairs (suc m) (drop i ns) ps ≡ (key_of_mark k, made_of x ps) ∷ taken_pairs m (drop (i + 1 + width x) ns) (left_of x ps)
  pub less : left_pairs (suc m) (drop i ns) ps ≡ left_pairs m (drop (i + 1 + width x) ns) (left_of x ps)

pub one_member : (ns : List Mark) (i n m : ℕ) (k x : Mark) (ps : List Tree) → n ≡ suc m → k ≡ get_or ns i nothing → x ≡ get_or ns (i + 1) nothing → CanTakePairs n (drop i ns) ps → OneMember ns i m k x ps
one_member ns i n m k x ps e f g h =
    let can = subst (λ l. CanTakePairs l (drop i ns) ps) e h in
    let key = at ns i k f can.0 in
    let next : drop 1 (drop i ns) ≡ drop (i + 1) ns = drop-drop 1 i ns in
    let take = subst (λ l. CanTake l ps) next can.2 in
    let w = whole_at ns (i + 1) x ps g take in
    let first = ap first_mark next ∙ w.first in
    let after = ap behind next ∙ w.after in
    record {
      key = key;
      text = subst (λ l. l ≡ string (key_of_mark l)) key.first can.1;
      take = take;
      whole = w;
      can = subst (λ (p : List Mark × List Tree). CanTakePairs m p.0 p.1) (λ j. (after j, left_of (first j) ps)) can.3;
      made = λ j. (key_of_mark (key.first j), made_of (first j) ps) ∷ taken_pairs m (after j) (left_of (first j) ps);
      less = λ j. left_pairs m (after j) (left_of (first j) ps);
    }

-- ---- what trees leave on the pile

abbrev pub standing : Repeats → List Tree → List Tree
standing c [] = []
standing c (null ∷ ts) = standing c ts
standing c (boolean b ∷ ts) = standing c ts
standing c (int n d ∷ ts) = standing c ts
standing c (text s ∷ ts) = standing c ts
standing c (list is ∷ ts) = tree_by c (list is) ∷ standing c ts
standing c (obj ms ∷ ts) = tree_by c (obj ms) ∷ standing c ts

abbrev pub ahead : Repeats → List Mark → List Tree
ahead c ns = standing c (trees_of ns)

-- the first tree is made, and taken off
record Takes (c : Repeats) (t : Tree) (ns : List Mark) : Type 0 where
  can : CanTake (flat t ++ ns) (ahead c (flat t ++ ns))
  made : made_of (first_mark (flat t ++ ns)) (ahead c (flat t ++ ns)) ≡ tree_by c t
  less : left_of (first_mark (flat t ++ ns)) (ahead c (flat t ++ ns)) ≡ ahead c ns
  rest : behind (flat t ++ ns) ≡ ns

long_front : {A : Type 0} (xs ys : List A) → length xs ≤ length (xs ++ ys)
long_front [] ys = omega arith
long_front (x ∷ xs) ys = omega (arith, long_front xs ys)

next_of : (n : ℕ) → 1 + n ≡ suc n
next_of n = omega arith

take_one : (c : Repeats) (t : Tree) (ns : List Mark) → Takes c t ns
take_one c null ns = record { can = (omega arith, omega arith, tt); made = refl; less = refl; rest = refl }
take_one c (boolean b) ns = record { can = (omega arith, omega arith, tt); made = refl; less = refl; rest = refl }
take_one c (int n d) ns = record { can = (omega arith, omega arith, tt); made = refl; less = refl; rest = refl }
take_one c (text s) ns = record { can = (omega arith, omega arith, tt); made = refl; less = refl; rest = refl }
take_one c (list is) ns =
    let all : ahead c (flat (list is) ++ ns) ≡ tree_by c (list is) ∷ ahead c ns = ap (standing c) (trees_of-flat (list is) ns) in
    record {
      can = (omega arith, omega (arith, long_front (flat_items is) ns), omega (arith, ap (λ (l : List Tree). length l) all));
      made = ap (λ ps. made_of (array 0 0) ps) all;
      less = ap (λ ps. left_of (array 0 0) ps) all;
      rest = ap (λ k. drop k (flat (list is) ++ ns)) (next_of (length (flat_items is))) ∙ drop_at (flat_items is) ns (length (flat_items is)) refl;
    }
take_one c (obj ms) ns =
    let all : ahead c (flat (obj ms) ++ ns) ≡ tree_by c (obj ms) ∷ ahead c ns = ap (standing c) (trees_of-flat (obj ms) ns) in
    record {
      can = (omega arith, omega (arith, long_front (flat_members ms) ns), omega (arith, ap (λ (l : List Tree). length l) all));
      made = ap (λ ps. made_of (array 0 0) ps) all;
      less = ap (λ ps. left_of (array 0 0) ps) all;
      rest = ap (λ k. drop k (flat (obj ms) ++ ns)) (next_of (length (flat_members ms))) ∙ drop_at (flat_members ms) ns (length (flat_members ms)) refl;
    }

-- ---- items

record TakesItems (c : Repeats) (is : Items) (ns : List Mark) : Type 0 where
  can : CanTakeItems (items_len is) (flat_items is ++ ns) (ahead c (flat_items is ++ ns))
  made : taken (items_len is) (flat_items is ++ ns) (ahead c (flat_items is ++ ns)) ≡ map (tree_by c) (listed is)
  less : trees_left (items_len is) (flat_items is ++ ns) (ahead c (flat_items is ++ ns)) ≡ ahead c ns

take_all : (c : Repeats) (is : Items) (ns : List Mark) → TakesItems c is ns
take_all c no_items ns = record { can = tt; made = refl; less = refl }
take_all c (item t is) ns =
    let one = take_one c t (flat_items is ++ ns) in
    let more = take_all c is ns in
    let apart : (flat t ++ flat_items is) ++ ns ≡ flat t ++ (flat_items is ++ ns) = append_assoc (flat t) (flat_items is) ns in
    let n = items_len is in
    let all : (CanTakeItems (suc n) ((flat t ++ flat_items is) ++ ns) (ahead c ((flat t ++ flat_items is) ++ ns)))
    × (taken (suc n) ((flat t ++ flat_items is) ++ ns) (ahead c ((flat t ++ flat_items is) ++ ns)) ≡ map (tree_by c) (listed (item t is)))
    × (trees_left (suc n) ((flat t ++ flat_items is) ++ ns) (ahead c ((flat t ++ flat_items is) ++ ns)) ≡ ahead c ns) =
    subst (λ l. (CanTakeItems (suc n) l (ahead c l)) × (taken (suc n) l (ahead c l) ≡ map (tree_by c) (listed (item t is))) × (trees_left (suc n) l (ahead c l) ≡ ahead c ns)) (sym apart) (
      (one.can, subst (λ (p : List Mark × List Tree). CanTakeItems n p.0 p.1) (λ i. (sym one.rest i, sym one.less i)) more.can),
      (λ i. one.made i ∷ taken n (one.rest i) (one.less i)) ∙ ap (λ l. tree_by c t ∷ l) more.made,
      (λ i. trees_left n (one.rest i) (one.less i)) ∙ more.less,
    ) in
    record { can = all.0; made = all.1; less = all.2 }

-- ---- members

record TakesMembers (c : Repeats) (ms : Members) (ns : List Mark) : Type 0 where
  can : CanTakePairs (members_len ms) (flat_members ms ++ ns) (ahead c (flat_members ms ++ ns))
  made : taken_pairs (members_len ms) (flat_members ms ++ ns) (ahead c (flat_members ms ++ ns)) ≡ pairs_by c ms
  less : left_pairs (members_len ms) (flat_members ms ++ ns) (ahead c (flat_members ms ++ ns)) ≡ ahead c ns

take_pairs : (c : Repeats) (ms : Members) (ns : List Mark) → TakesMembers c ms ns
take_pairs c no_members ns = record { can = tt; made = refl; less = refl }
take_pairs c (member k t ms) ns =
    let one = take_one c t (flat_members ms ++ ns) in
    let more = take_pairs c ms ns in
    let apart : (flat t ++ flat_members ms) ++ ns ≡ flat t ++ (flat_members ms ++ ns) = append_assoc (flat t) (flat_members ms) ns in
    let n = members_len ms in
    let all : (CanTakePairs (suc n) (string k ∷ ((flat t ++ flat_members ms) ++ ns)) (ahead c ((flat t ++ flat_members ms) ++ ns)))
    × (taken_pairs (suc n) (string k ∷ ((flat t ++ flat_members ms) ++ ns)) (ahead c ((flat t ++ flat_members ms) ++ ns)) ≡ pairs_by c (member k t ms))
    × (left_pairs (suc n) (string k ∷ ((flat t ++ flat_members ms) ++ ns)) (ahead c ((flat t ++ flat_members ms) ++ ns)) ≡ ahead c ns) =
    subst (λ l. (CanTakePairs (suc n) (string k ∷ l) (ahead c l)) × (taken_pairs (suc n) (string k ∷ l) (ahead c l) ≡ pairs_by c (member k t ms)) × (left_pairs (suc n) (string k ∷ l) (ahead c l) ≡ ahead c ns)) (sym apart) (
      (omega arith, refl, one.can, subst (λ (p : List Mark × List Tree). CanTakePairs n p.0 p.1) (λ i. (sym one.rest i, sym one.less i)) more.can),
      (λ i. (k, one.made i) ∷ taken_pairs n (one.rest i) (one.less i)) ∙ ap (λ l. (k, tree_by c t) ∷ l) more.made,
      (λ i. left_pairs n (one.rest i) (one.less i)) ∙ more.less,
    ) in
    record { can = all.0; made = all.1; less = all.2 }

-- ---- a turn of the loop

-- what a node does to the pile, it does to what its nodes leave on it
record Turns (c : Repeats) (ns rest : List Mark) : Type 0 where
  needs : Needs ns (ahead c rest)
  grows : grown c ns (ahead c rest) ≡ ahead c ns

turn_tree : (c : Repeats) (t : Tree) (ns : List Mark) → Turns c (flat t ++ ns) (drop 1 (flat t ++ ns))
turn_tree c null ns = record { needs = tt; grows = refl }
turn_tree c (boolean b) ns = record { needs = tt; grows = refl }
turn_tree c (int n d) ns = record { needs = tt; grows = refl }
turn_tree c (text s) ns = record { needs = tt; grows = refl }
turn_tree c (list is) ns =
    let h = take_all c is ns in
    record {
      needs = h.can;
      grows = (λ i. list (items_from (h.made i)) ∷ h.less i) ∙ ap (λ l. list l ∷ ahead c ns) (items_kept c is) ∙ sym (ap (standing c) (trees_of-flat (list is) ns));
    }
turn_tree c (obj ms) ns =
    let h = take_pairs c ms ns in
    record {
      needs = h.can;
      grows = (λ i. obj (members_from (kept_by c [] (h.made i))) ∷ h.less i) ∙ ap (λ l. obj l ∷ ahead c ns) (members_kept c ms) ∙ sym (ap (standing c) (trees_of-flat (obj ms) ns));
    }

turn_begun : (c : Repeats) (ns : List Mark) → BeginsTree ns → Turns c ns (drop 1 ns)
turn_begun c ns b = subst (λ l. Turns c l (drop 1 l)) (sym b.are) (turn_tree c b.tree b.rest)

-- the turn at a position of a preorder
pub turn_at : (c : Repeats) (ns : List Mark) (n i : ℕ) → i + 1 ≡ n → i < length ns → IsPreorder ns
    → Needs (drop i ns) (ahead c (drop n ns)) × (grown c (drop i ns) (ahead c (drop n ns)) ≡ ahead c (drop i ns))
turn_at c ns n i e h whole =
    let t = turn_begun c (drop i ns) (begins_first (drop i ns) (AllBegin-drop i ns (AllBegin-preorder ns whole)) (omega (arith, h, length-drop i ns))) in
    let after : drop n ns ≡ drop 1 (drop i ns) = ap (λ k. drop k ns) (sym e) ∙ sym (drop-drop 1 i ns) in (
      subst (λ l. Needs (drop i ns) (ahead c l)) (sym after) t.needs,
      (λ j. grown c (drop i ns) (ahead c (after j))) ∙ t.grows,
    )

-- ---- the end

pub nothing_ahead : (c : Repeats) (ns : List Mark) (n : ℕ) → n ≡ length ns → [] ≡ ahead c (drop n ns)
nothing_ahead c ns n e = sym (ap (λ l. ahead c l) (drop_all n ns (omega (arith, e))))

flat_some : (t : Tree) → 0 < length (flat t)
flat_some null = omega arith
flat_some (boolean b) = omega arith
flat_some (int n c) = omega arith
flat_some (text s) = omega arith
flat_some (list is) = omega arith
flat_some (obj ms) = omega arith

-- a preorder has a node
pub preorder_some : (ns : List Mark) → IsPreorder ns → 0 < length ns
preorder_some ns h = omega (arith, flat_some (tree_of ns), ap (λ (l : List Mark). length l) h)

-- the whole tree is made last
pub last_one : (c : Repeats) (ns : List Mark) → IsPreorder ns → IsThere (first_mark ns) (ahead c ns) × (made_of (first_mark ns) (ahead c ns) ≡ keep_by c (tree_of ns))
last_one c ns h =
    let t = tree_of ns in
    let one = take_one c t [] in
    let whole : flat t ++ [] ≡ ns = append-nil (flat t) ∙ sym h in (
      subst (λ l. IsThere (first_mark l) (ahead c l)) whole one.can.2,
      sym (ap (λ l. made_of (first_mark l) (ahead c l)) whole) ∙ one.made ∙ tree_kept c t,
    )

-- ---- one container on the pile

members_from-shown : {K V : Type 0} (tree : V → Tree) (es : List (Entry K V)) → entry_members tree es ≡ members_from (entry_pairs tree es)
members_from-shown tree [] = refl
members_from-shown tree (e ∷ es) = ap (member e.0.1 (tree e.1)) (members_from-shown tree es)

pub array_on : {V : Type 0} (tree : V → Tree) (mid new : List V) (v : V) (vs : List V) (ts ps : List Tree)
    → map tree vs ≡ ts → pile tree mid ≡ ps → tree v ≡ list (items_from (map tree vs)) → new ≡ mid ++ v ∷ [] → pile tree new ≡ list (items_from ts) ∷ ps
array_on tree mid new v vs ts ps means rest is e = popped tree new mid v e ∙ (λ i. (is ∙ ap (λ l. list (items_from l)) means) i ∷ rest i)

pub object_on : {K V : Type 0} (tree : V → Tree) (mid new : List V) (v : V) (es : List (Entry K V)) (qs : List (List ℕ × Tree)) (ps : List Tree)
    → entry_pairs tree es ≡ qs → pile tree mid ≡ ps → tree v ≡ obj (entry_members tree es) → new ≡ mid ++ v ∷ [] → pile tree new ≡ obj (members_from qs) ∷ ps
object_on tree mid new v es qs ps means rest is e = popped tree new mid v e ∙ (λ i. (is ∙ ap obj (members_from-shown tree es) ∙ ap (λ l. obj (members_from l)) means) i ∷ rest i)

-- ---- one item more

pub map_push : {V : Type 0} (tree : V → Tree) (vs ws : List V) (v : V) (t : Tree) (ts : List Tree) → ws ≡ vs ++ v ∷ [] → tree v ≡ t → map tree ws ++ ts ≡ map tree vs ++ t ∷ ts
map_push tree vs ws v t ts e f = ap (λ l. map tree l ++ ts) e ∙ push vs ∙ ap (λ u. map tree vs ++ u ∷ ts) f where
  push : (vs : List _) → map tree (vs ++ v ∷ []) ++ ts ≡ map tree vs ++ tree v ∷ ts
  push [] = refl
  push (w ∷ vs) = ap (λ l. tree w ∷ l) (push vs)

-- nodes that need something are some
pub some_node : (ns : List Mark) (ps : List Tree) → Needs ns ps → 0 < length ns
some_node [] ps h = absurd h
some_node (m ∷ ns) ps h = omega arith
