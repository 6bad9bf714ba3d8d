-- A tree is the only one with its preorder.
use Rattle.std.proofs.Common.{◌≡◌, ℕ, suc, ◌*◌, List, [], ◌∷◌, ◌++◌, drop, refl, ap, append_assoc, arith}
use Rattle.sj_text_core.specs.Tree.{Tree, null, boolean, int, text, list, obj, Items, no_items, item, Members, no_members, member, items_len, members_len, listed}
use Rattle.sj_text_core.specs.Nodes.{Mark, flat, flat_items, flat_members, trees_of, items_of, members_of}

-- members as trees, a text before each value
abbrev pub texts_and_values : Members → List Tree
texts_and_values no_members = []
texts_and_values (member k t ms) = text k ∷ t ∷ texts_and_values ms

items_of-listed : (is : Items) (ts : List Tree) → items_of (items_len is) (listed is ++ ts) ≡ is
items_of-listed no_items ts = refl
items_of-listed (item t is) ts = ap (item t) (items_of-listed is ts)

drop-listed : (is : Items) (ts : List Tree) → drop (items_len is) (listed is ++ ts) ≡ ts
drop-listed no_items ts = refl
drop-listed (item t is) ts = drop-listed is ts

members_of-texts_and_values : (ms : Members) (ts : List Tree) → members_of (members_len ms) (texts_and_values ms ++ ts) ≡ ms
members_of-texts_and_values no_members ts = refl
members_of-texts_and_values (member k t ms) ts = ap (member k t) (members_of-texts_and_values ms ts)

twice : (n : ℕ) → 2 * suc n ≡ suc (suc (2 * n))
twice n = omega arith

drop-texts_and_values : (ms : Members) (ts : List Tree) → drop (2 * members_len ms) (texts_and_values ms ++ ts) ≡ ts
drop-texts_and_values no_members ts = refl
drop-texts_and_values (member k t ms) ts = rw (twice (members_len ms)) (drop-texts_and_values ms ts)

mutual
  pub trees_of-flat : (t : Tree) (ns : List Mark) → trees_of (flat t ++ ns) ≡ t ∷ trees_of ns
  trees_of-flat null ns = refl
  trees_of-flat (boolean b) ns = refl
  trees_of-flat (int n c) ns = refl
  trees_of-flat (text s) ns = refl
  trees_of-flat (list is) ns =
      rw (trees_of-flat_items is ns) (rw (items_of-listed is (trees_of ns), drop-listed is (trees_of ns)) refl)
  trees_of-flat (obj ms) ns =
      rw (trees_of-flat_members ms ns) (rw (members_of-texts_and_values ms (trees_of ns), drop-texts_and_values ms (trees_of ns)) refl)

  pub trees_of-flat_items : (is : Items) (ns : List Mark) → trees_of (flat_items is ++ ns) ≡ listed is ++ trees_of ns
  trees_of-flat_items no_items ns = refl
  trees_of-flat_items (item t is) ns =
      rw (append_assoc (flat t) (flat_items is) ns, trees_of-flat t (flat_items is ++ ns), trees_of-flat_items is ns) refl

  pub trees_of-flat_members : (ms : Members) (ns : List Mark) → trees_of (flat_members ms ++ ns) ≡ texts_and_values ms ++ trees_of ns
  trees_of-flat_members no_members ns = refl
  trees_of-flat_members (member k t ms) ns =
      rw (append_assoc (flat t) (flat_members ms) ns, trees_of-flat t (flat_members ms ++ ns), trees_of-flat_members ms ns) refl
