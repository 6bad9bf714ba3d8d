-- A tree and its parts.
use Rattle.std.proofs.Common.{◌≡◌, suc, Some, refl, sym, ap}
use Rattle.sj_text_core.specs.Tree.{Tree, null, boolean, int, text, list, obj, Items, no_items, item, items_len, items_from, listed, Members, no_members, member, members_from, paired}
use Rattle.sj_text_core.specs.Reads.{as_items, as_members}
use Rattle.sj_text_core.specs.Same.{SameItems}

-- items as a list and back
pub items_from-listed : (is : Items) → items_from (listed is) ≡ is
items_from-listed no_items = refl
items_from-listed (item t is) = ap (λ k. item t k) (items_from-listed is)

-- members as a list and back
pub members_from-paired : (ms : Members) → members_from (paired ms) ≡ ms
members_from-paired no_members = refl
members_from-paired (member k t ms) = ap (λ l. member k t l) (members_from-paired ms)

-- the tree with these items
pub list_is : (t : Tree) (is : Items) → Some is ≡ as_items t → t ≡ list is
list_is null is e = cc
list_is (boolean b) is e = cc
list_is (int n c) is e = cc
list_is (text s) is e = cc
list_is (list js) is e = cc
list_is (obj ms) is e = cc

-- the tree with these members
pub obj_is : (t : Tree) (ms : Members) → Some ms ≡ as_members t → t ≡ obj ms
obj_is null ms e = cc
obj_is (boolean b) ms e = cc
obj_is (int n c) ms e = cc
obj_is (text s) ms e = cc
obj_is (list is) ms e = cc
obj_is (obj ns) ms e = cc

-- items that are the same are as many
pub same_items_len : (is js : Items) → SameItems is js → items_len is ≡ items_len js
same_items_len no_items js h = ap items_len (sym h)
same_items_len (item t is) no_items h = absurd h
same_items_len (item t is) (item u js) h = ap (λ n. suc n) (same_items_len is js h.1)
