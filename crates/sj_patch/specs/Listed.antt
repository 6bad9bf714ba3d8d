-- The patch document that lists operations (RFC 6902, sections 3 and 4).
use Rattle.std.specs.Prelude.{◌≡◌, ℕ, List, [], ◌∷◌, Ok, codes}
use Rattle.sj_text_core.specs.Tree.{Tree, text, list, obj, Items, no_items, item, Members, no_members, member}
use Rattle.sj_pointer.specs.Shown.{pointer_text}
use Rattle.sj_patch.specs.Patch.{PlainOperation, add, remove, replace, move, copy, test}
use Rattle.sj_patch.specs.Operations.{patch_in}

-- the object of an operation of that name at that path, and what else it takes
abbrev pub operation_object : List ℕ → List (List ℕ) → Members → Tree
operation_object op path ms = obj (member (codes "op") (text op) (member (codes "path") (text (pointer_text path)) ms))

abbrev pub value_members : Tree → Members
value_members v = member (codes "value") v no_members

abbrev pub with_from : List (List ℕ) → Members
with_from from = member (codes "from") (text (pointer_text from)) no_members

-- the object that lists an operation
abbrev pub listed_operation : PlainOperation → Tree
listed_operation (add path v) = operation_object (codes "add") path (value_members v)
listed_operation (remove path) = operation_object (codes "remove") path no_members
listed_operation (replace path v) = operation_object (codes "replace") path (value_members v)
listed_operation (move from path) = operation_object (codes "move") path (with_from from)
listed_operation (copy from path) = operation_object (codes "copy") path (with_from from)
listed_operation (test path v) = operation_object (codes "test") path (value_members v)

abbrev pub listed_all : List PlainOperation → Items
listed_all [] = no_items
listed_all (o ∷ os) = item (listed_operation o) (listed_all os)

-- what lists operations is read as them
abbrev pub ListsAreRead : Type 0
ListsAreRead = (os : List PlainOperation) → patch_in (list (listed_all os)) ≡ Ok os
