-- What parts of tapes, arrays, objects and iterators mean.
use Rattle.std.proofs.Common.{◌≡◌, ℕ, pos, List, [], ◌∷◌, refl, ap, codes, Some, None, Bor}
use Rattle.sj_text_core.specs.Tree.{u64, i64, Tree, null, int, text, list, obj, no_items, item, no_members, member, listed, paired}
use Rattle.sj_text_core.specs.Nodes.{number, string, array, object, nothing, tree_of, members_in}
use Rattle.sj_text_core.specs.declared.repeats.Repeats.TheVariants.{First, Last}
use Rattle.sj_tape.specs.Items.{items, items_ahead, items_parts_ahead}
use Rattle.sj_tape.specs.Members.{members, members_ahead, keys_ahead, values_ahead, chosen_pairs, value_parts_ahead}
use Rattle.sj_tape.specs.Marks.{packed_marks}
use Rattle.sj_tape.specs.inner.PackedTree.{packed_tree, packed_items, packed_members}
use Rattle.sj_tape.specs.Parts.{items_in}
use Rattle.sj_tape.specs.Stretches.{nodes_in}
use Rattle.sj_tape.specs.Value.{tape_tree, tape_choice, tape_part, tape_found, as_scalar, displayed}
use Rattle.sj_tape.specs.declared.array.Array.{Array}
use Rattle.sj_tape.specs.declared.array.Iter.{Iter as ArrayIter}
use Rattle.sj_tape.specs.declared.object.Object.{Object}
use Rattle.sj_tape.specs.declared.object.Iter.{Iter as ObjectIter}
use Rattle.sj_tape.specs.declared.object.Keys.{Keys}
use Rattle.sj_tape.specs.declared.object.Values.{Values}
use Rattle.sj_tape.specs.declared.packed.Packed.TheVariants as packed
use Rattle.sj_tape.specs.declared.value.Value.{Value}
use Rattle.sj_tape.specs.declared.value.packed_tree.PackedTree.{PackedTree}
use Rattle.sj_tape.specs.declared.value.packed_tree.PackedItems.{PackedItems}
use Rattle.sj_tape.specs.declared.value.packed_tree.PackedMembers.{PackedMembers}

abbrev one : Tree
one = int (pos 1) u64

abbrev two : Tree
two = int (pos 2) u64

-- the nodes of 1, [2] and null: three items, whatever follows inside them
items-row : items_in (number (pos 1) u64 ∷ array 1 1 ∷ number (pos 2) u64 ∷ nothing ∷ []) ≡ item one (item (list (item two no_items)) (item null no_items))
items-row = refl

listed-row : listed (item one (item two no_items)) ≡ one ∷ two ∷ []
listed-row = refl

-- repeats are paired too, in order
paired-row : paired (member (codes "a") one (member (codes "b") null (member (codes "a") two no_members))) ≡ (codes "a", one) ∷ (codes "b", null) ∷ (codes "a", two) ∷ []
paired-row = refl

-- an array of the items 1 and [2], and what its iterator shows
array-items : (a : Array) → nodes_in a.nodes ≡ number (pos 1) u64 ∷ array 1 1 ∷ number (pos 2) u64 ∷ [] → items a ≡ item one (item (list (item two no_items)) no_items)
array-items a h = ap (λ ns. items_in ns) h

array-ahead : (it : ArrayIter) → nodes_in it.nodes ≡ array 1 1 ∷ number (pos 2) u64 ∷ [] → items_ahead it ≡ list (item two no_items) ∷ []
array-ahead it h = ap (λ ns. listed (items_in ns)) h

-- each part carries the choice
array-parts : (it : ArrayIter) → it.repeats ≡ Last → nodes_in it.nodes ≡ number (pos 1) u64 ∷ number (pos 2) u64 ∷ [] → items_parts_ahead it ≡ (Last, one) ∷ (Last, two) ∷ []
array-parts it c h = rw (c, h) refl

-- an object of the members a 1, b [2] and a null: all of them, with the keys' texts
object-members : (o : Object) (a b : Bor (List ℕ)) → nodes_in o.nodes ≡ string a.now ∷ number (pos 1) u64 ∷ string b.now ∷ array 1 1 ∷ number (pos 2) u64 ∷ string a.now ∷ nothing ∷ []
    → members o ≡ member a.now one (member b.now (list (item two no_items)) (member a.now null no_members))
object-members o a b h = ap (λ ns. members_in ns) h

object-ahead : (it : ObjectIter) (a b : Bor (List ℕ)) → nodes_in it.nodes ≡ string a.now ∷ number (pos 1) u64 ∷ string b.now ∷ nothing ∷ [] → members_ahead it ≡ (a.now, one) ∷ (b.now, null) ∷ []
object-ahead it a b h = ap (λ ns. paired (members_in ns)) h

keys-ahead : (it : Keys) (a b : Bor (List ℕ)) → nodes_in it.members.nodes ≡ string a.now ∷ number (pos 1) u64 ∷ string b.now ∷ nothing ∷ [] → keys_ahead it ≡ a.now ∷ b.now ∷ []
keys-ahead it a b h = rw h refl

values-ahead : (it : Values) (a b : Bor (List ℕ)) → nodes_in it.members.nodes ≡ string a.now ∷ number (pos 1) u64 ∷ string b.now ∷ nothing ∷ [] → values_ahead it ≡ one ∷ null ∷ []
values-ahead it a b h = rw h refl

value-parts : (it : Values) (a : Bor (List ℕ)) → it.members.repeats ≡ Last → nodes_in it.members.nodes ≡ string a.now ∷ number (pos 1) u64 ∷ [] → value_parts_ahead it ≡ (Last, one) ∷ []
value-parts it a c h = rw (c, h) refl

chosen-row : chosen_pairs Last ((codes "a", one) ∷ (codes "b", null) ∷ []) ≡ (codes "a", (Last, one)) ∷ (codes "b", (Last, null)) ∷ []
chosen-row = refl

-- the part of a tape that begins with an object
value-tree : (v : Value) (a : Bor (List ℕ)) → nodes_in v.nodes ≡ object 1 2 ∷ string a.now ∷ number (pos 1) u64 ∷ [] → tape_tree v ≡ obj (member a.now one no_members)
value-tree v a h = ap (λ ns. tree_of ns) h

value-part : (v : Value) → v.repeats ≡ Last → nodes_in v.nodes ≡ nothing ∷ [] → tape_part v ≡ (Last, null)
value-part v c h = rw (c, h) refl

-- packed nodes
packed-tree : (t : PackedTree) (a : Bor (List ℕ)) → t.nodes.now ≡ packed.Object 1 2 ∷ packed.String a ∷ packed.U64 1 ∷ [] → packed_tree t ≡ obj (member a.now one no_members)
packed-tree t a h = ap (λ ns. tree_of (packed_marks ns)) h

packed-items : (it : PackedItems) → it.nodes.now ≡ packed.Array 1 1 ∷ packed.U64 2 ∷ packed.Null ∷ [] → packed_items it ≡ list (item two no_items) ∷ null ∷ []
packed-items it h = ap (λ ns. listed (items_in (packed_marks ns))) h

packed-members : (it : PackedMembers) (a b : Bor (List ℕ)) → it.nodes.now ≡ packed.String a ∷ packed.U64 1 ∷ packed.String b ∷ packed.Null ∷ [] → packed_members it ≡ (a.now, one) ∷ (b.now, null) ∷ []
packed-members it a b h = ap (λ ns. paired (members_in (packed_marks ns))) h

-- {"a":1,"a":2}, by the choice of the part
found-first : (v : Value) → tape_choice v ≡ First → tape_tree v ≡ obj (member (codes "a") one (member (codes "a") two no_members)) → tape_found v (codes "a") ≡ Some one
found-first v c h = rw (c, h) refl

found-last : (v : Value) → tape_choice v ≡ Last → tape_tree v ≡ obj (member (codes "a") one (member (codes "a") two no_members)) → tape_found v (codes "a") ≡ Some two
found-last v c h = rw (c, h) refl

scalar-number : as_scalar (int (pos 5) i64) ≡ Some (int (pos 5) i64)
scalar-number = refl

scalar-text : as_scalar (text (codes "5")) ≡ None
scalar-text = refl

-- a text is displayed without quotes, but with them inside an array
displayed-text : displayed (text (codes "a")) ≡ codes "a"
displayed-text = refl

displayed-null : displayed null ≡ codes "null"
displayed-null = refl

displayed-list : displayed (list (item (text (codes "a")) (item null no_items))) ≡ codes "[\"a\",null]"
displayed-list = refl
