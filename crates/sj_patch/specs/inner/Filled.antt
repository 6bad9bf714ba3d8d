-- Operations that are given the values of their items.
use Rattle.std.specs.Prelude.{List, [], ◌∷◌, Option, Some, None, unwrap_or, codes}
use Rattle.sj_text_core.specs.Tree.{Tree, null, Items, no_items, item}
use Rattle.sj_text_core.specs.Find.{find}
use Rattle.sj_patch.specs.Patch.{PlainOperation, add, remove, replace, move, copy, test}

-- the value that an item has; a null where it has none
abbrev pub value_or_null : Tree → Tree
value_or_null t = unwrap_or (find (codes "value") t) null

-- the operation with the item's value in the place of its own
abbrev pub filled : PlainOperation → Tree → PlainOperation
filled (add path v) t = add path (value_or_null t)
filled (remove path) t = remove path
filled (replace path v) t = replace path (value_or_null t)
filled (move from path) t = move from path
filled (copy from path) t = copy from path
filled (test path v) t = test path (value_or_null t)

-- operations in order, each with the value of the item in its place
abbrev pub filled_all : List PlainOperation → Items → List PlainOperation
filled_all [] is = []
filled_all (o ∷ os) no_items = o ∷ os
filled_all (o ∷ os) (item t is) = filled o t ∷ filled_all os is

-- operations with the values of items, where there are some
abbrev pub filled_in : Option Items → List PlainOperation → List PlainOperation
filled_in None os = os
filled_in (Some is) os = filled_all os is
