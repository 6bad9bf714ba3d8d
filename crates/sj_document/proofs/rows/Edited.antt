-- Edits of small trees.
use Rattle.std.proofs.Common.{◌≡◌, ℕ, pos, refl, codes, Some, None}
use Rattle.sj_text_core.specs.Tree.{u64, Tree, null, int, list, obj, no_items, item, no_members, member}
use Rattle.sj_text_core.specs.Reads.{as_items, as_members}
use Rattle.sj_text_core.specs.declared.error.AccessError.TheVariants.{NotAnObject, NotAnArray, OutOfMemory}
use Rattle.sj_document.specs.Document.{with_member, without_member, with_item, without_last, last_item, edit_fault}

abbrev n : ℕ → Tree
n m = int (pos m) u64

-- {"a":1,"b":2}
abbrev ab : Tree
ab = obj (member (codes "a") (n 1) (member (codes "b") (n 2) no_members))

abbrev pair : Tree
pair = list (item (n 1) (item (n 2) no_items))

-- a key that is there keeps its place, a new one goes last
with-present : with_member (codes "a") (n 3) ab ≡ obj (member (codes "a") (n 3) (member (codes "b") (n 2) no_members))
with-present = refl

with-new : with_member (codes "c") null ab ≡ obj (member (codes "a") (n 1) (member (codes "b") (n 2) (member (codes "c") null no_members)))
with-new = refl

with-null : with_member (codes "a") (n 1) null ≡ null
with-null = refl

without-first : without_member (codes "a") ab ≡ obj (member (codes "b") (n 2) no_members)
without-first = refl

without-absent : without_member (codes "c") ab ≡ ab
without-absent = refl

without-list : without_member (codes "a") pair ≡ pair
without-list = refl

-- items come and go at the end
pushed : with_item (n 2) (list (item (n 1) no_items)) ≡ pair
pushed = refl

popped : without_last pair ≡ list (item (n 1) no_items)
popped = refl

popped-item : last_item pair ≡ Some (n 2)
popped-item = refl

popped-empty : last_item (list no_items) ≡ None
popped-empty = refl

popped-object : without_last ab ≡ ab
popped-object = refl

-- the kind comes before memory
why-null : edit_fault NotAnObject (as_members null) ≡ NotAnObject
why-null = refl

why-object : edit_fault NotAnObject (as_members ab) ≡ OutOfMemory
why-object = refl

why-array : edit_fault NotAnArray (as_items ab) ≡ NotAnArray
why-array = refl
