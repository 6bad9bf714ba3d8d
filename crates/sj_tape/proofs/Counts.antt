-- How many nodes the first items and members have.
use Rattle.std.proofs.Common.{◌≡◌, ℕ, suc, ◌+◌, ◌<◌, ◌≤◌, List, [], ◌∷◌, ◌++◌, length, drop, get_or, refl, sym, ap, subst, ◌∙◌, arith, append-nil, append_assoc, length-append}
use Rattle.std.proofs.lemmas.List.{get_or-append-add, length-map}
use Rattle.std.proofs.Math.ListN.{get_or-map}
use Rattle.sj_text_core.specs.Tree.{Tree, Items, no_items, item, items_len, Members, no_members, member, members_len}
use Rattle.sj_text_core.specs.Edits.{push}
use Rattle.sj_text_core.specs.Nodes.{Mark, string, flat, flat_items, flat_members, width}
use Rattle.sj_text_core.specs.declared.static_node.StaticNode.TheVariants.{Null}
use Rattle.sj_tape.specs.declared.node.Node.{Node}
use Rattle.sj_tape.specs.declared.node.Node.TheVariants.{Static}
use Rattle.sj_tape.specs.Marks.{mark, marks}
use Rattle.sj_tape.specs.inner.Fronts.{BeginsTree, AllBegin, IsText, BeginsItems, BeginsMembers}
use Rattle.sj_tape.proofs.Splits.{flat-append, length-flat, width-flat}

pub AllBegin-append : (x y : List Mark) → AllBegin (x ++ y) → AllBegin y
AllBegin-append [] y h = h
AllBegin-append (m ∷ x) y h = AllBegin-append x y h.1

-- a tree begins at the first node
pub begins_first : (ns : List Mark) → AllBegin ns → 0 < length ns → BeginsTree ns
begins_first [] h l = absurd (omega (arith, l))
begins_first (m ∷ ns) h l = h.0

width_first : (ns : List Mark) (b : BeginsTree ns) (d : Mark) → width (get_or ns 0 d) ≡ length (flat b.tree)
width_first ns b d = ap (λ l. width (get_or l 0 d)) b.are ∙ width-flat b.tree b.rest d

-- a node behind the first stretch
get_or_behind : (ns x y : List Mark) (at i : ℕ) (d : Mark) → ns ≡ x ++ y → length x ≡ at → get_or ns (at + i) d ≡ get_or y i d
get_or_behind ns x y at i d e l =
    ap (λ n. get_or ns (n + i) d) (sym l) ∙ (ap (λ l. get_or l (length x + i) d) e ∙ get_or-append-add x y i d)

-- ---- items

flat_items-push : (is : Items) (t : Tree) → flat_items (push t is) ≡ flat_items is ++ flat t
flat_items-push no_items t = append-nil (flat t)
flat_items-push (item u is) t = ap (λ l. flat u ++ l) (flat_items-push is t) ∙ sym (append_assoc (flat u) (flat_items is) (flat t))

items_len-push : (is : Items) (t : Tree) → items_len (push t is) ≡ suc (items_len is)
items_len-push no_items t = refl
items_len-push (item u is) t = ap suc (items_len-push is t)

-- how many nodes they leave
items_leave : (len count : ℕ) (ns : List Mark) (b : BeginsItems len count ns) → length ns ≡ count + length b.rest
items_leave len count ns b =
    ap (λ (l : List Mark). length l) b.are ∙ (length-append (flat_items b.items) b.rest ∙ ap (λ n. n + length b.rest) b.wide)

-- and one item more
items_next : (done at : ℕ) (ns : List Mark) (b : BeginsItems done at ns) (first : BeginsTree b.rest) → BeginsItems (done + 1) (at + length (flat first.tree)) ns
items_next done at ns b first =
    record {
      items = push first.tree b.items;
      rest = first.rest;
      are = b.are ∙ (ap (λ l. flat_items b.items ++ l) first.are ∙ (sym (append_assoc (flat_items b.items) (flat first.tree) first.rest)
          ∙ ap (λ l. l ++ first.rest) (sym (flat_items-push b.items first.tree))));
      counted = omega (arith, items_len-push b.items first.tree, b.counted);
      wide = ap (λ (l : List Mark). length l) (flat_items-push b.items first.tree)
          ∙ (length-append (flat_items b.items) (flat first.tree) ∙ ap (λ n. n + length (flat first.tree)) b.wide);
    }

item_more : (done at : ℕ) (ns : List Mark) (d : Mark) → AllBegin ns → BeginsItems done at ns → at < length ns → BeginsItems (done + 1) (at + width (get_or ns at d)) ns
item_more done at ns d h b l =
    let begins = AllBegin-append (flat_items b.items) b.rest (subst (λ ns. AllBegin ns) b.are h) in
    let first = begins_first b.rest begins (omega (arith, items_leave done at ns b)) in
    let w = get_or_behind ns (flat_items b.items) b.rest at 0 d b.are b.wide in
    subst (λ n. BeginsItems (done + 1) (at + n) ns)
    (sym (width_first b.rest first d) ∙ (ap (λ m. width m) (sym w) ∙ ap (λ n. width (get_or ns n d)) (omega arith))) (items_next done at ns b first)

-- where there are more items, a tree begins behind the fewer
items_longer : (is js : Items) (r s : List Mark) → items_len js < items_len is → flat_items js ++ s ≡ flat_items is ++ r → BeginsTree s
items_longer no_items no_items r s l e = absurd (omega (arith, l))
items_longer no_items (item u js) r s l e = absurd (omega (arith, l))
items_longer (item t is) no_items r s l e = record { tree = t; rest = flat_items is ++ r; are = e ∙ append_assoc (flat t) (flat_items is) r }
items_longer (item t is) (item u js) r s l e =
    items_longer is js r s (omega (arith, l))
    (flat-append u t (flat_items js ++ s) (flat_items is ++ r) (sym (append_assoc (flat u) (flat_items js) s) ∙ (e ∙ append_assoc (flat t) (flat_items is) r))).1

-- no more items follow where no nodes do
pub items_end : (done at len count : ℕ) (ns : List Mark) → BeginsItems done at ns → done < len → length ns ≤ at → BeginsItems len count ns → ⊥
items_end done at len count ns b l h c =
    let more = items_longer c.items b.items c.rest b.rest (omega (arith, l, b.counted, c.counted)) (sym b.are ∙ c.are) in
    let rests = ap (λ (l : List Mark). length l) more.are ∙ length-append (flat more.tree) more.rest in
    omega (arith, items_leave done at ns b, h, rests, length-flat more.tree)

items_alike : (is js : Items) (r s : List Mark) → items_len is ≡ items_len js → flat_items is ++ r ≡ flat_items js ++ s → is ≡ js
items_alike no_items no_items r s l e = refl
items_alike no_items (item u js) r s l e = absurd (omega (arith, l))
items_alike (item t is) no_items r s l e = absurd (omega (arith, l))
items_alike (item t is) (item u js) r s l e =
    let both = flat-append t u (flat_items is ++ r) (flat_items js ++ s) (sym (append_assoc (flat t) (flat_items is) r) ∙ (e ∙ append_assoc (flat u) (flat_items js) s)) in
    let others = items_alike is js r s (omega (arith, l)) both.1 in
    ap (λ v. item v is) both.0 ∙ ap (item u) others

-- so many items have so many nodes alone
pub items_count : (len count other : ℕ) (ns : List Mark) → BeginsItems len count ns → BeginsItems len other ns → count ≡ other
items_count len count other ns b c =
    sym b.wide ∙ (ap (λ is. length (flat_items is)) (items_alike b.items c.items b.rest c.rest (b.counted ∙ sym c.counted) (sym b.are ∙ c.are)) ∙ c.wide)

-- ---- members

-- the members with one behind them
abbrev with_member : List ℕ → Tree → Members → Members
with_member k t no_members = member k t no_members
with_member k t (member l u ms) = member l u (with_member k t ms)

flat_members-with_member : (ms : Members) (k : List ℕ) (t : Tree) → flat_members (with_member k t ms) ≡ flat_members ms ++ string k ∷ flat t
flat_members-with_member no_members k t = ap (λ l. string k ∷ l) (append-nil (flat t))
flat_members-with_member (member l u ms) k t =
    ap (λ x. string l ∷ (flat u ++ x)) (flat_members-with_member ms k t) ∙ ap (λ x. string l ∷ x) (sym (append_assoc (flat u) (flat_members ms) (string k ∷ flat t)))

members_len-with_member : (ms : Members) (k : List ℕ) (t : Tree) → members_len (with_member k t ms) ≡ suc (members_len ms)
members_len-with_member no_members k t = refl
members_len-with_member (member l u ms) k t = ap suc (members_len-with_member ms k t)

-- a member begins at the first node
record BeginsMember (ns : List Mark) : Type 0 where
  name : List ℕ
  tree : Tree
  rest : List Mark
  are : ns ≡ string name ∷ (flat tree ++ rest)

-- how many nodes they leave
members_leave : (len count : ℕ) (ns : List Mark) (b : BeginsMembers len count ns) → length ns ≡ count + length b.rest
members_leave len count ns b =
    ap (λ (l : List Mark). length l) b.are ∙ (length-append (flat_members b.members) b.rest ∙ ap (λ n. n + length b.rest) b.wide)

-- and one member more
members_next : (done at : ℕ) (ns : List Mark) (b : BeginsMembers done at ns) (first : BeginsMember b.rest) → BeginsMembers (done + 1) (at + (1 + length (flat first.tree))) ns
members_next done at ns b first =
    record {
      members = with_member first.name first.tree b.members;
      rest = first.rest;
      are = b.are ∙ (ap (λ l. flat_members b.members ++ l) first.are ∙ (sym (append_assoc (flat_members b.members) (string first.name ∷ flat first.tree) first.rest)
          ∙ ap (λ l. l ++ first.rest) (sym (flat_members-with_member b.members first.name first.tree))));
      counted = omega (arith, members_len-with_member b.members first.name first.tree, b.counted);
      wide = omega (
        arith,
        ap (λ (l : List Mark). length l) (flat_members-with_member b.members first.name first.tree),
        length-append (flat_members b.members) (string first.name ∷ flat first.tree),
        b.wide,
      );
    }

-- the member at the first node, where that is a key with a node behind it
record FirstMember (ns : List Mark) (d : Mark) : Type 0 where
  begins : BeginsMember ns
  wide : width (get_or ns 1 d) ≡ length (flat begins.tree)

first_member : (ns : List Mark) (d : Mark) (k : List ℕ) → AllBegin ns → 1 < length ns → get_or ns 0 d ≡ string k → FirstMember ns d
first_member [] d k h l e = absurd (omega (arith, l))
first_member (m ∷ []) d k h l e = absurd (omega (arith, l))
first_member (m ∷ n ∷ ns) d k h l e =
    let behind : BeginsTree (n ∷ ns) = h.1.0 in
    record {
      begins = record { name = k; tree = behind.tree; rest = behind.rest; are = ap (λ x. x ∷ n ∷ ns) e ∙ ap (λ l. string k ∷ l) behind.are };
      wide = width_first (n ∷ ns) behind d;
    }

member_more : (done at : ℕ) (ns : List Mark) (d : Mark) (k : List ℕ) → AllBegin ns → BeginsMembers done at ns → at + 1 < length ns → get_or ns at d ≡ string k
    → BeginsMembers (done + 1) (at + (1 + width (get_or ns (at + 1) d))) ns
member_more done at ns d k h b l e =
    let begins = AllBegin-append (flat_members b.members) b.rest (subst (λ ns. AllBegin ns) b.are h) in
    let key = get_or_behind ns (flat_members b.members) b.rest at 0 d b.are b.wide in
    let first = first_member b.rest d k begins (omega (arith, members_leave done at ns b)) (sym key ∙ (ap (λ n. get_or ns n d) (omega arith) ∙ e)) in
    let w = get_or_behind ns (flat_members b.members) b.rest at 1 d b.are b.wide in
    subst (λ n. BeginsMembers (done + 1) (at + (1 + n)) ns) (sym first.wide ∙ ap (λ m. width m) (sym w)) (members_next done at ns b first.begins)

-- where there are more members, a member begins behind the fewer
members_longer : (ms ns : Members) (r s : List Mark) → members_len ns < members_len ms → flat_members ns ++ s ≡ flat_members ms ++ r → BeginsMember s
members_longer no_members no_members r s l e = absurd (omega (arith, l))
members_longer no_members (member k u ns) r s l e = absurd (omega (arith, l))
members_longer (member k t ms) no_members r s l e =
    record { name = k; tree = t; rest = flat_members ms ++ r; are = e ∙ ap (λ x. string k ∷ x) (append_assoc (flat t) (flat_members ms) r) }
members_longer (member k t ms) (member j u ns) r s l e =
    members_longer ms ns r s (omega (arith, l))
    (flat-append u t (flat_members ns ++ s) (flat_members ms ++ r)
    (sym (append_assoc (flat u) (flat_members ns) s) ∙ (ap (λ x. drop 1 x) e ∙ append_assoc (flat t) (flat_members ms) r))).1

-- no more members follow where no key with a node behind it does
pub members_end : (done at len count : ℕ) (ns : List Mark) (d : Mark) → BeginsMembers done at ns → done < len
    → (at + 1 < length ns → (k : List ℕ) → get_or ns at d ≡ string k → ⊥) → BeginsMembers len count ns → ⊥
members_end done at len count ns d b l h c =
    let more = members_longer c.members b.members c.rest b.rest (omega (arith, l, b.counted, c.counted)) (sym b.are ∙ c.are) in
    let rests = ap (λ (l : List Mark). length l) more.are ∙ ap suc (length-append (flat more.tree) more.rest) in
    h (omega (arith, members_leave done at ns b, rests, length-flat more.tree)) more.name
    (ap (λ n. get_or ns n d) (omega arith) ∙ (get_or_behind ns (flat_members b.members) b.rest at 0 d b.are b.wide ∙ ap (λ l. get_or l 0 d) more.are))

members_alike : (ms ns : Members) (r s : List Mark) → members_len ms ≡ members_len ns → flat_members ms ++ r ≡ flat_members ns ++ s → length (flat_members ms) ≡ length (flat_members ns)
members_alike no_members no_members r s l e = refl
members_alike no_members (member k u ns) r s l e = absurd (omega (arith, l))
members_alike (member k t ms) no_members r s l e = absurd (omega (arith, l))
members_alike (member k t ms) (member j u ns) r s l e =
    let both = flat-append t u (flat_members ms ++ r) (flat_members ns ++ s)
    (sym (append_assoc (flat t) (flat_members ms) r) ∙ (ap (λ x. drop 1 x) e ∙ append_assoc (flat u) (flat_members ns) s)) in
    let others = members_alike ms ns r s (omega (arith, l)) both.1 in
    omega (arith, others, length-append (flat t) (flat_members ms), length-append (flat u) (flat_members ns), ap (λ v. length (flat v)) both.0)

-- so many members have so many nodes alone
pub members_count : (len count other : ℕ) (ns : List Mark) → BeginsMembers len count ns → BeginsMembers len other ns → count ≡ other
members_count len count other ns b c =
    sym b.wide ∙ (members_alike b.members c.members b.rest c.rest (b.counted ∙ sym c.counted) (sym b.are ∙ c.are) ∙ c.wide)

-- ---- at nodes

-- one item more, at the node that is read
pub record ItemStep (done at : ℕ) (nodes : List Node) : Type 0 where
  pub next : BeginsItems (done + 1) (at + width (mark (get_or nodes at (Static Null)))) (marks nodes)
  pub inside : at + width (mark (get_or nodes at (Static Null))) ≤ length nodes

pub item_step : (done at : ℕ) (nodes : List Node) → AllBegin (marks nodes) → BeginsItems done at (marks nodes) → at < length nodes → ItemStep done at nodes
item_step done at nodes h b l =
    let lens : length (marks nodes) ≡ length nodes = length-map nodes mark in
    let more = item_more done at (marks nodes) (mark (Static Null)) h b (omega (arith, l, lens)) in
    let w : width (get_or (marks nodes) at (mark (Static Null))) ≡ width (mark (get_or nodes at (Static Null))) = ap (λ m. width m) (get_or-map mark nodes at (Static Null)) in
    record { next = subst (λ n. BeginsItems (done + 1) (at + n) (marks nodes)) w more; inside = omega (arith, items_leave _ _ _ more, w, lens) }

pub items_none : (done at len : ℕ) (nodes : List Node) → BeginsItems done at (marks nodes) → done < len → length nodes ≤ at → (count : ℕ) → BeginsItems len count (marks nodes) → ⊥
items_none done at len nodes b l h count c =
    let lens : length (marks nodes) ≡ length nodes = length-map nodes mark in
    items_end done at len count (marks nodes) b l (omega (arith, h, lens)) c

-- one member more, at the nodes that are read
pub record MemberStep (done at : ℕ) (nodes : List Node) : Type 0 where
  pub next : BeginsMembers (done + 1) (at + (1 + width (mark (get_or nodes (at + 1) (Static Null))))) (marks nodes)
  pub inside : at + (1 + width (mark (get_or nodes (at + 1) (Static Null)))) ≤ length nodes

pub member_step : (done at : ℕ) (nodes : List Node) → AllBegin (marks nodes) → BeginsMembers done at (marks nodes) → at + 1 < length nodes → IsText (mark (get_or nodes at (Static Null))) → MemberStep done at nodes
member_step done at nodes h b l k =
    let lens : length (marks nodes) ≡ length nodes = length-map nodes mark in
    let more = member_more done at (marks nodes) (mark (Static Null)) k.0 h b (omega (arith, l, lens)) (get_or-map mark nodes at (Static Null) ∙ k.1) in
    let w : width (get_or (marks nodes) (at + 1) (mark (Static Null))) ≡ width (mark (get_or nodes (at + 1) (Static Null))) = ap (λ m. width m) (get_or-map mark nodes (at + 1) (Static Null)) in
    record { next = subst (λ n. BeginsMembers (done + 1) (at + (1 + n)) (marks nodes)) w more; inside = omega (arith, members_leave _ _ _ more, w, lens) }

pub members_none : (done at len : ℕ) (nodes : List Node) → BeginsMembers done at (marks nodes) → done < len → (at + 1 < length nodes → IsText (mark (get_or nodes at (Static Null))) → ⊥)
    → (count : ℕ) → BeginsMembers len count (marks nodes) → ⊥
members_none done at len nodes b l h count c =
    let lens : length (marks nodes) ≡ length nodes = length-map nodes mark in
    members_end done at len count (marks nodes) (mark (Static Null)) b l (λ i k e. h (omega (arith, i, lens)) (k, sym (get_or-map mark nodes at (Static Null)) ∙ e)) c
